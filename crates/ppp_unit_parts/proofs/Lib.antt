pub mod SessionFacts
pub mod MemberFacts
pub mod OutboxFacts
pub mod SendFacts
