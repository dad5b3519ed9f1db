-- What a `Recorder` is to its callers, and what is noted of a turn before it is made.

-- a plain store and the calls that one CPU has made of it; one over a store of this shape; the call
-- that a note is of
pub use Rattle.bpf_events.specs.Private.Recording.{Recording, IsRecorderOf, event_of}
-- what happens in a turn with this result, where these events were noted; whatever the CPU's next
-- turn leads to, this happens in it
pub use Rattle.bpf_events.specs.Private.Watching.{noted, IsWatched}
-- a job in this stage fits the recorder's store; and its next step there, or its beginning, is noted
pub use Rattle.bpf_events.specs.Private.Watching.{FitsStage, NotesStage, NotesStep, NotesBegin}
