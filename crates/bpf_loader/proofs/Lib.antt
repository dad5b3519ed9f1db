pub mod WordLemmas
pub mod MarkLemmas
pub mod SlotLemmas
pub mod RowLemmas
pub mod SoundLemmas
pub mod CheckLemmas
pub mod DeterminedPlaces
pub mod DeterminedRefusal
