pub mod BitsLemmas
pub mod ReadingLemmas
pub mod WindowLemmas
pub mod WritingLemmas
pub mod CutLemmas
pub mod PaddingLemmas
pub mod ZerosLemmas
