mod Ends
mod Keys
mod Leaves
mod Names
mod OneArrangement
mod Units
mod Values
