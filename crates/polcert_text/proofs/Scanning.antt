-- Gaps, lexemes and cuts, byte by byte.
pub mod BeforeFirst
pub mod Classes
pub mod CleanCut
pub mod CutLaws
pub mod GapLaws
pub mod LexemeEnds
pub mod LexemeLaws
pub mod Runs
pub mod SeenLaws
pub mod SomeCut
pub mod Tests
