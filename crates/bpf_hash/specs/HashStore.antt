-- What a `HashStore` is to its callers. What its contents are made of is its own affair: they are
-- known by what is said of them here.

-- what it was made with, and what it says of its CPUs: its maps' shapes, the CPUs that it serves,
-- those that are in a run, and the spans of the values that a run holds
pub use Rattle.bpf_hash.specs.Private.Contents.{Contents, IsMade, shapes_of, has_cpu, is_running, held_spans}
-- the plain stores that it stands for; what calls do to it, said of these; when a call may lack
-- room
pub use Rattle.bpf_hash.specs.Private.Contents.{StandsFor, Passes, Makes, MayLack}
-- the bytes that it is saved as
pub use Rattle.bpf_hash.specs.Private.Saved.{IsSavedAs}
-- what it is restored to: the same contents in their normal form
pub use Rattle.bpf_hash.specs.Private.Normal.{normal}
