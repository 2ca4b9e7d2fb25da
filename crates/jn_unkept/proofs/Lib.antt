mod Below
mod Pairing
mod Rounds
