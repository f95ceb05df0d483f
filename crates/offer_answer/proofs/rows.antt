mod Calls
mod Plain
mod Secure
mod Texts
mod ChosenLines
mod Families
mod Mux
