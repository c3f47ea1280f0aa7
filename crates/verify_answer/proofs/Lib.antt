mod Signals
mod Found
mod Naming
mod Answered
mod SolveTexts
mod Tested
mod FirstBadLemmas
mod Determined
