-- Texts that come from a source.
pub mod Giving
pub mod ReadTexts
pub mod SliceTexts
pub mod StreamGaps
pub mod StreamLaws
pub mod StreamLexemes
pub mod StreamStops
pub mod StreamTaken
pub mod StreamTakes
pub mod WindowLaws
