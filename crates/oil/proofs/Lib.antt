-- The laws that the functions' own proofs cite.
mod Words
mod Runs
mod SortNumbers
mod Steps
mod Rest
mod Comment
mod TokenLists
mod Walks
mod TokenNumbers
mod Gathering
mod ByClass
mod Order
mod FirstUse
mod Digits
mod Hash
mod Ranges
mod Answer
