-- What each version of run files has (our own choice).
use Rattle.std.specs.Prelude.{Bool, true, false}
use Rattle.bpf_file.specs.declared.version.Version.{Version}
use Rattle.bpf_file.specs.declared.version.Version.TheVariants.{First, Second, Third}

-- maps may grow
abbrev pub may_grow : Version → Bool
may_grow First = false
may_grow Second = true
may_grow Third = true

-- there may be arrays
abbrev pub has_arrays : Version → Bool
has_arrays First = false
has_arrays Second = false
has_arrays Third = true
