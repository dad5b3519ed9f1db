-- Bytes that are named by texts.
use Rattle.std.proofs.Common.{◌≡◌, ◌∙◌, ℕ, ◌+◌, ◌<◌, ◌≤◌, String, List, [], ◌∷◌, ◌++◌, Option, Some, None, length, get_or, map, false, inl}
use Rattle.std.proofs.Common.{inr, refl, sym, ap, subst, arith}
use Rattle.std.specs.declared.alloc.Global.{Global}
use Rattle.std.specs.Prelude.{IfNone, IfSome, slice_get, option_map, string_bytes}
use Rattle.std.specs.List.{before_first}
use Rattle.std.proofs.lemmas.Bool.{cases_lt}
use Rattle.std.proofs.lemmas.List.{length-map}
use Rattle.std.proofs.lemmas.Option.{slice_get-get_or, slice_get-map, slice_get_read, slice_get_within}
use Rattle.bpf_shared.specs.declared.shapes.MapShape.{MapShape}
use Rattle.bpf_names.specs.Names.{Names, Variable, variable_named}
use Rattle.bpf_races.specs.declared.sync.Part.{Part}
use Rattle.bpf_races.specs.Touch.{IsAmong}
use Rattle.bpf_races.specs.Sync.{ArePartsOf, Says, SaysOfMap, is_mark, range_in, variable_part}
use Rattle.bpf_races.specs.Private.Parts.{IsPart}
use Rattle.bpf_races.proofs.Lists.{in_front, in_last, in_cases}

-- the text that is read
pub name_there : (names : List (String Global)) (own : String Global) (m : ℕ) → m < length names → own ≡ get_or names m own → slice_get
    (map string_bytes names) m ≡ Some (string_bytes own)
name_there names own m inside is =
    slice_get-map string_bytes names m ∙ ap (λ (o : Option (String Global)). option_map string_bytes o)
    (slice_get_read names (length names) m own refl inside is)

module _ (names : List (List ℕ)) (maps : List MapShape) (text : List ℕ) where
  -- no map has the number
  pub none_beyond : (n : ℕ) → length maps ≤ n → (part : Part) → part.map ≡ n → SaysOfMap names maps text part → ⊥
  none_beyond n past part at says = let inside = slice_get_within maps part.map says.shape says.map in absurd (omega arith)

  -- the map of the number has another name
  pub none_named : (n : ℕ) (name : List ℕ) → slice_get names n ≡ Some name → (name ≡ before_first (is_mark 43) text → ⊥) → (part : Part) →
      part.map ≡ n → SaysOfMap names maps text part → ⊥
  none_named n name here other part at says =
      let two : Some name ≡ Some (before_first (is_mark 43) text) = sym here ∙ (ap (λ (k : ℕ). slice_get names k) (sym at) ∙ says.named) in
      other cc

  same_shape : (o : Option MapShape) (one other : MapShape) → o ≡ Some one → o ≡ Some other → one ≡ other
  same_shape o one other a b = let both : Some one ≡ Some other = sym a ∙ b in cc

  -- it has the name, and not the bytes
  pub none_ranged : (n : ℕ) (sizes : MapShape) → slice_get maps n ≡ Some sizes → range_in text sizes.value ≡ None → (part : Part) → part.map
      ≡ n → SaysOfMap names maps text part → ⊥
  none_ranged n sizes here none part at says =
      let same : sizes ≡ says.shape = same_shape (slice_get maps n) sizes says.shape here (ap (λ (k : ℕ). slice_get maps k) (sym at) ∙ says.map) in
      let none_there : Option (ℕ × ℕ) = None in
      let no_range : none_there ≡ Some (part.from, part.past) = sym none ∙ (ap (λ (h : MapShape). range_in text h.value) same ∙ says.range) in
      cc

  -- it has both
  pub one_said : (n : ℕ) (sizes : MapShape) → slice_get maps n ≡ Some sizes → slice_get names n ≡ Some (before_first (is_mark 43) text) →
      (part : Part) → IsPart sizes n text part → SaysOfMap names maps text part
  one_said n sizes here named part is = record {
    shape = sizes;
    map = ap (λ (k : ℕ). slice_get maps k) is.map ∙ here;
    named = ap (λ (k : ℕ). slice_get names k) is.map ∙ named;
    stride = is.stride;
    range = is.range;
  }

  pub all_said : (n : ℕ) (sizes : MapShape) → slice_get maps n ≡ Some sizes → slice_get names n ≡ Some (before_first (is_mark 43) text) →
      (o : Option Part) → IfSome o (IsPart sizes n text) → IfSome o (SaysOfMap names maps text)
  all_said n sizes here named None is = tt
  all_said n sizes here named (Some part) is = one_said n sizes here named part is

  pub none_left : (n : ℕ) (sizes : MapShape) → slice_get maps n ≡ Some sizes → (o : Option Part) → IfNone o
      (range_in text sizes.value ≡ None) → IfNone o ((part : Part) → part.map ≡ n → SaysOfMap names maps text part → ⊥)
  none_left n sizes here None none = none_ranged n sizes here none
  none_left n sizes here (Some part) none = tt

  -- none of the maps below the number
  abbrev pub NoneBelow : ℕ → Type 0
  NoneBelow n = (part : Part) → part.map < n → SaysOfMap names maps text part → ⊥

  pub none_more : (n : ℕ) → NoneBelow n → ((part : Part) → part.map ≡ n → SaysOfMap names maps text part → ⊥) → NoneBelow (n + 1)
  none_more n far here part less says = elim (cases_lt part.map n) [
    | inl below ↦ far part below says
    | inr past ↦ here part (omega arith) says
  ]

  pub none_at_all : (n : ℕ) → length names ≤ n → NoneBelow n → (part : Part) → SaysOfMap names maps text part → ⊥
  none_at_all n past far part says = let inside = slice_get_within names part.map (before_first (is_mark 43) text) says.named in far part (omega arith) says

-- the sizes that are read
abbrev pub no_sizes : MapShape
no_sizes = record { key = 0; value = 0; max = 0; spare = 0; mask = 0; grow = false }

pub sizes_there : (maps own : List MapShape) (n : ℕ) → own ≡ maps → n < length own → slice_get maps n ≡ Some (get_or own n no_sizes)
sizes_there maps own n same inside = ap (λ (ms : List MapShape). slice_get ms n) (sym same) ∙ slice_get-get_or own n no_sizes inside

-- the text names the bytes of a variable, or else of a map
pub said_variable : (names : Names) (maps : List MapShape) (text : List ℕ) (v : Variable) (part : Part) → Some v ≡ variable_named text
    names.variables → part ≡ variable_part v → Says names maps text part
said_variable names maps text v part found is =
    inl (ap (λ (o : Option Variable). option_map variable_part o) (sym found) ∙ ap (λ (p : Part). Some p) (sym is))

pub said_by_map : (names : Names) (maps : List MapShape) (text : List ℕ) (o : Option Part) → IfSome o (SaysOfMap names.maps maps text) →
    IfSome o (Says names maps text)
said_by_map names maps text None is = tt
said_by_map names maps text (Some part) is = inr is

pub none_by_map : (names : Names) (maps : List MapShape) (text : List ℕ) (o : Option Part) → option_map variable_part
    (variable_named text names.variables) ≡ None
    → IfNone o ((part : Part) → SaysOfMap names.maps maps text part → ⊥) → IfNone o ((part : Part) → Says names maps text part → ⊥)
none_by_map names maps text (Some part) lacks none = tt
none_by_map names maps text None lacks none = λ part says. elim says [
  | inl variable ↦ (let two : None ≡ Some part = sym lacks ∙ variable in cc)
  | inr named ↦ none part named
]

-- the bytes of the first n texts
pub record PartsBelow (names : Names) (maps : List MapShape) (sync : List (List ℕ)) (n : ℕ) (parts : List Part) : Type 0 where
  pub said : (part : Part) → IsAmong parts part → (text : List ℕ) × IsAmong sync text × Says names maps text part
  pub each : (k : ℕ) (text : List ℕ) → k < n → slice_get sync k ≡ Some text → (part : Part) × IsAmong parts part × Says names maps text part

module _ (names : Names) (maps : List MapShape) (sync : List (List ℕ)) where
  pub none_below : PartsBelow names maps sync 0 []
  none_below = record { said = λ part (i, at). cc; each = λ k text less at. absurd (omega arith) }

  same_text : (o : Option (List ℕ)) (one other : List ℕ) → o ≡ Some one → o ≡ Some other → one ≡ other
  same_text o one other a b = let both : Some one ≡ Some other = sym a ∙ b in cc

  pub one_more : (n : ℕ) (old new : List Part) (text : List ℕ) (part : Part) → PartsBelow names maps sync n old → slice_get sync n ≡ Some
      text → Says names maps text part → new ≡ old ++ part ∷ [] → PartsBelow names maps sync (n + 1) new
  one_more n old new text part far here says is = subst (PartsBelow names maps sync (n + 1)) (sym is) (record {
    said = λ one there. elim (in_cases old part one there) [
      | inl before ↦ far.said one before
      | inr same ↦ (text, (n, here), subst (λ (x : Part). Says names maps text x) (sym same) says)
    ];
    each = λ k other less at. elim (cases_lt k n) [
      | inl below ↦ let found = far.each k other below at in (found.0, in_front old part found.0 found.1, found.2)
      | inr past ↦
          let e : k ≡ n = omega arith in
          let same : text ≡ other = same_text (slice_get sync n) text other here (ap (λ (i : ℕ). slice_get sync i) (sym e) ∙ at) in
          (part, in_last old part, subst (λ (x : List ℕ). Says names maps x part) same says)
    ];
  })

pub all_below : (names : Names) (maps : List MapShape) (sync : List (String Global)) (n : ℕ) (parts : List Part) → length sync ≤ n →
    PartsBelow names maps (map string_bytes sync) n parts → ArePartsOf names maps (map string_bytes sync) parts
all_below names maps sync n parts past far = record {
  said = far.said;
  each = λ text (k, at).
      let inside = slice_get_within (map string_bytes sync) k text at in
      let count = length-map sync string_bytes in
      far.each k text (omega arith) at;
}
