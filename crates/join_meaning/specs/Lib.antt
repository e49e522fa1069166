-- What must be believed of joining beyond `meaning`: the bytes of a table's rule file.
pub mod Laid
pub mod Promises
