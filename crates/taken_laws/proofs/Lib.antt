mod Unshifted
mod Few
mod Forms
mod Made
mod Room
mod Converted
mod Taken
