pub mod Hmac
pub mod Derivation
pub mod MasterKey
