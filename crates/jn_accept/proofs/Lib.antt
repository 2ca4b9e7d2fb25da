mod OneMain
mod Rows
