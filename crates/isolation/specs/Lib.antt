-- What request A9 speaks of, in reading order: who is above a level, two states and two models that are the
-- same above it, and the requests, begins and ends of a body.
--
-- Letters: c a configuration, L a level, s and s' states, m and m' models, e and es events, i and b the number
-- of a body, r that of a body that runs, or a rank, w a word, ls losses by rank, x and y what is seen of an
-- event, o how many requests have not ended.
pub mod Above
pub mod States
pub mod Models
pub mod Requests
