mod Same
mod Agreeing
