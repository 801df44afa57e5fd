pub mod KindLemmas
pub mod ContentLemmas
pub mod PutLemmas
