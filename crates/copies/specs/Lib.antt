-- Two servers that saw other forks (document 02, U13), and an example of them.
pub mod Copies
pub mod Example
