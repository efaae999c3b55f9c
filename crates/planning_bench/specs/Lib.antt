pub mod Alternation
