-- Resources: only declared users hold one, and what a declared user is refused.
pub mod Users
pub mod Refusal
