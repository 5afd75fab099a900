pub mod LadderLaws
pub mod VerdictLaws
pub mod OneOutcome
pub mod RefusalLaws
