mod SameText
mod SolveTexts
mod Told
mod Accepted
mod Answered
mod Determined
