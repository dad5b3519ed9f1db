-- Looking labels up. Private functions cite this.
use Rattle.std.specs.Prelude.{ℕ, List, Option}
use Rattle.std.specs.Option.{option_or}
use Rattle.std.specs.Str.{bytes_eq}
use Rattle.std.specs.HashMap.{HashMap, get_by}
use Rattle.std.specs.declared.hash.FoldHasher.{FoldHasher}
use Rattle.std.specs.declared.hash.BuildHasherDefault.{BuildHasherDefault}
use Rattle.bpf_text.specs.declared.labels.Place.{Place}
use denote.Ref.{Bor}

-- what was noted of this label
abbrev pub found : HashMap (Bor (List ℕ)) Place (BuildHasherDefault FoldHasher) → List ℕ
    → Option Place
found m name = get_by (λ k. bytes_eq name k.now) m

-- the first of two answers
abbrev pub or_else : {A : Type 0} → Option A → Option A → Option A
or_else o p = option_or o p
