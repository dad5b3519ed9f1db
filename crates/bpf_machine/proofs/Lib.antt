pub mod NoStore
pub mod OwnEvents
pub mod AdvanceLaws
pub mod ListLaws
pub mod AloneLaws
pub mod BoardLaws
pub mod WorkLaws
pub mod BeginLaws
pub mod ProceedLaws
pub mod TurnLaws
mod LengthLaws
pub mod RoundLaws
pub mod MadeLaws
mod AnotherLaws
pub mod KeyListLaws
pub mod ListingLaws
pub mod DeterminedTurns
pub mod HappeningLaws
pub mod FallLaws
pub mod HeadwayLaws
pub mod AheadLaws
mod QuietLaws
pub mod CoverLaws
pub mod RaceLaws
pub mod PatientLaws
pub mod PatientRaceLaws
pub mod EndLaws
pub mod RefillLaws
pub mod OthersLaws
pub mod HostLaws
pub mod StandLaws
pub mod OneMore
mod FillLaws
pub mod PartLaws
pub mod FitLaws
pub mod StageLemmas
pub mod JobLemmas
pub mod ComingFrom
