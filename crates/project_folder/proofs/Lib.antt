mod ListLemmas
pub mod WrittenLemmas
