-- What a `PlainStore` is to its callers. What its contents are made of is its own affair: they are
-- known by what is said of them here.

-- what it was made with, and what it says of its CPUs: its shape and that of its maps, the CPUs
-- that it serves, those that are in a run, and the spans of the values that a run holds
pub use Rattle.bpf_plain.specs.Private.Contents.{Contents, IsMade, shape_of, shapes_of, has_cpu, is_running, held_spans}
-- the plain stores that it stands for; what calls do to it, said of these; when a call may lack
-- room
pub use Rattle.bpf_plain.specs.Private.Contents.{StandsFor, Passes, MayLack}
-- the bytes that it is saved as
pub use Rattle.bpf_plain.specs.Private.Saved.{IsSavedAs}
-- what it is restored to: the same contents in their normal form
pub use Rattle.bpf_plain.specs.Private.Normal.{normal}
