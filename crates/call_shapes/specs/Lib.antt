pub mod Events
pub mod Agreement
pub mod WholeRelay
pub mod Turns
pub mod OfferFits
pub mod NumberedTurns
pub mod Comings
