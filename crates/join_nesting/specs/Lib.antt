-- What the parts of the nesting test ask and answer, beyond the definitions of `meaning` and `table`.
pub mod Nesting
