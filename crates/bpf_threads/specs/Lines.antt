-- What is printed of threads. Our own choice.
use Rattle.std.specs.Prelude.{ℕ, Bool, List, [], ◌++◌, codes, if◌then◌else◌}
use Rattle.bpf_threads.specs.declared.threads.Threads.{Threads}

abbrev pub elements_text : Bool → List ℕ
elements_text may = if may then codes "threads may run out of elements\n" else []

abbrev pub parts_text : Bool → List ℕ
parts_text may = if may then codes "threads may see keys or values in part\n" else []

-- a line for each way in which threads may reach more
abbrev pub threads_text : Threads → List ℕ
threads_text t = elements_text t.elements ++ parts_text t.parts

-- one of them as a comment of TAP, after a mark
abbrev pub note_text : Bool → (mark line : List ℕ) → List ℕ
note_text may mark line = if may then codes "# " ++ (mark ++ line) else []

abbrev pub notes_text : (mark : List ℕ) → Threads → List ℕ
notes_text mark t =
    note_text t.elements mark (elements_text t.elements)
    ++ note_text t.parts mark (parts_text t.parts)
