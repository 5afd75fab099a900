pub mod Logic
pub mod Ring
pub mod Linear
pub mod Polynomial
pub mod Bound
pub mod Equal
pub mod Modulo
pub mod Signed
