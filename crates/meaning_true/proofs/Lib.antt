mod Settling
mod Renewing
mod RolesLocal
mod Closing
mod Staying
mod Looking
mod Seeing
mod Knowing
pub mod Lemmas
