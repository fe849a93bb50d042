-- Events and traces, as the contracts of `event_codec` cite them, in reading order: the refusals, one event, the trace
-- as a list of events.
--
-- Letters: e an event, es events; bs bytes; at, p places; n a number that was read, or a length; d a writer's output.
pub mod Refusal
pub mod Event
pub mod Trace
