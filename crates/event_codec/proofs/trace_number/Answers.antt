-- `trace_number` meets its contract: a number's refusals are two, and each has one of the trace's.
use Rattle.event_codec.proofs.Steps.{unread}
use Rattle.event_codec.proofs.trace_number.Goals as goal

pub returns-in-Err : goal.returns-in-Err
returns-in-Err c =
    unread c.args.trace.now c.args.at c.in-Err.refused c.in_trace.result c.in-Err.ensures c.in_trace.ensures.refusal
    c.in_trace.ensures.place
