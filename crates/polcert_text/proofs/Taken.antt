-- Tokens that were taken.
pub mod BeginLaws
pub mod ValueLaws
pub mod PassedTokens
pub mod TakenAhead
pub mod TakenTokens
