pub mod KeyLemmas
pub mod LineLemmas
pub mod MemberLemmas
pub mod SipLemmas
pub mod UnlikeLemmas
