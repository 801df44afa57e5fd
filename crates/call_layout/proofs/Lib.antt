mod WordCuts
mod Steps
mod Lines
mod ReadBack
mod Firsts
mod Standing
