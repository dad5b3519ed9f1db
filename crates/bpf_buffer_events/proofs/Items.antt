-- The lines of calls, one after the other.
use Rattle.std.proofs.Common.{◌≡◌, ◌∙◌, ℕ, ◌+◌, ◌<◌, Bool, true, false, List, [], ◌∷◌, ◌++◌, append_assoc, append-nil, length, take, get_or}
use Rattle.std.proofs.Common.{refl, sym, ap, subst}
use Rattle.std.specs.Prelude.{map, if◌then◌else◌}
use Rattle.std.proofs.lemmas.List.{map-append, take_more}
use Rattle.bpf_shared.specs.declared.events.Event.{Event}
use Rattle.bpf_shared.specs.declared.events.Event.TheVariants as event
use Rattle.bpf_cpu.specs.declared.outcome.Outcome.{Outcome}
use Rattle.bpf_machine.specs.declared.machine.Turn.{Turn}
use Rattle.bpf_machine.specs.declared.machine.Turn.TheVariants.{Ended}
use Rattle.bpf_machine.specs.Happenings.{Happening, end_events}
use Rattle.bpf_events.specs.Lines.{happening_line}
use Rattle.bpf_buffering.specs.declared.waiting.Stored.{Stored}
use Rattle.bpf_buffering.specs.Waiting as buffers
use Rattle.bpf_events.specs.declared.note.Note.{Note}
use Rattle.bpf_events.specs.Watched.{event_of}
use Rattle.bpf_buffer_events.specs.Happenings.{Item, Called, Flushed, all_after, drains, items, waiting_after}
use Rattle.bpf_buffer_events.specs.Printed.{item_line, item_lines}

pub lines-append : (names : List (List ℕ)) (xs ys : List Item) → item_lines names (xs ++ ys) ≡ item_lines names xs ++ item_lines names ys
lines-append names [] ys = refl
lines-append names (x ∷ xs) ys =
    ap (λ (text : List ℕ). item_line names x ++ text) (lines-append names xs ys)
    ∙ sym (append_assoc (item_line names x) (item_lines names xs) (item_lines names ys))

-- texts that follow each other
pub lines_both : (names : List (List ℕ)) (xs ys : List Item) (start mid later : List ℕ) → mid ≡ start ++ item_lines names xs
    → later ≡ mid ++ item_lines names ys → later ≡ start ++ item_lines names (xs ++ ys)
lines_both names xs ys start mid later before after =
    after ∙ (ap (λ (x : List ℕ). x ++ item_lines names ys) before
    ∙ (append_assoc start (item_lines names xs) (item_lines names ys)
    ∙ ap (λ (x : List ℕ). start ++ x) (sym (lines-append names xs ys))))

pub one_line : (names : List (List ℕ)) (x : Item) (text later : List ℕ) → later ≡ text ++ item_line names x → later ≡ text ++ item_lines names (x ∷ [])
one_line names x text later is = is ∙ ap (λ (line : List ℕ). text ++ line) (sym (append-nil (item_line names x)))

pub no_lines : (names : List (List ℕ)) (text : List ℕ) → text ≡ text ++ item_lines names []
no_lines names text = sym (append-nil text)

-- ---- stores that reach memory
pub flush_more : (names : List (List ℕ)) (c : ℕ) (start text later : List ℕ) (stores : List Stored) (i : ℕ) (d : Stored) → i < length stores
    → text ≡ start ++ item_lines names (map (Flushed c) (map buffers.event_of (take i stores)))
    → later ≡ text ++ item_line names (Flushed c (buffers.event_of (get_or stores i d)))
    → later ≡ start ++ item_lines names (map (Flushed c) (map buffers.event_of (take (i + 1) stores)))
flush_more names c start text later stores i d inside before after =
    let flushed : List Stored → List Item = λ (xs : List Stored). map (Flushed c) (map buffers.event_of xs) in
    let last = get_or stores i d in
    let all : flushed (take (i + 1) stores) ≡ flushed (take i stores) ++ flushed (last ∷ []) =
    ap flushed (take_more stores i d inside)
    ∙ (ap (map (Flushed c)) (map-append buffers.event_of (take i stores) (last ∷ []))
    ∙ map-append (Flushed c) (map buffers.event_of (take i stores)) (map buffers.event_of (last ∷ [])))
    in
    subst (λ (xs : List Item). later ≡ start ++ item_lines names xs) (sym all)
    (lines_both names (flushed (take i stores)) (flushed (last ∷ [])) start text later before
    (one_line names (Flushed c (buffers.event_of last)) text later after))

-- of what a call drains, if it drains
pub drained_lines : (names : List (List ℕ)) (c : ℕ) (w : List Event) (b : Bool) (start later : List ℕ) → b ≡ true
    → later ≡ start ++ item_lines names (map (Flushed c) w) → later ≡ start ++ item_lines names (map (Flushed c) (if b then w else []))
drained_lines names c w true start later drains lines = lines
drained_lines names c w false start later drains lines = let no : false ≡ true = drains in cc

pub undrained_lines : (names : List (List ℕ)) (c : ℕ) (w : List Event) (b : Bool) (text : List ℕ) → b ≡ false
    → text ≡ text ++ item_lines names (map (Flushed c) (if b then w else []))
undrained_lines names c w true text stays = let no : true ≡ false = stays in cc
undrained_lines names c w false text stays = no_lines names text

-- ---- calls
pub all-append : (w : List Event) (es fs : List Event) → all_after w (es ++ fs) ≡ all_after (all_after w es) fs
all-append w [] fs = refl
all-append w (e ∷ es) fs = all-append (waiting_after w e) es fs

module _ (c : ℕ) (there : Event → Happening) where
  pub items-append : (w : List Event) (es fs : List Event) → items c there w (es ++ fs) ≡ items c there w es ++ items c there (all_after w es) fs
  items-append w [] fs = refl
  items-append w (e ∷ es) fs =
      let first = map (Flushed c) (if drains e then w else []) in
      let rest = items c there (waiting_after w e) es in
      let last = items c there (all_after (waiting_after w e) es) fs in
      ap (λ (xs : List Item). first ++ Called (there e) ∷ xs) (items-append (waiting_after w e) es fs)
      ∙ sym (append_assoc first (Called (there e) ∷ rest) last)

  -- a call's lines, after those of what it drains
  pub call_lines : (names : List (List ℕ)) (w : List Event) (e : Event) (start mid later : List ℕ)
      → mid ≡ start ++ item_lines names (map (Flushed c) (if drains e then w else [])) → later ≡ mid ++ happening_line names (there e)
      → later ≡ start ++ item_lines names (items c there w (e ∷ []))
  call_lines names w e start mid later before after =
      lines_both names (map (Flushed c) (if drains e then w else [])) (Called (there e) ∷ []) start mid later before
      (one_line names (Called (there e)) mid later after)

  pub calls_both : (names : List (List ℕ)) (w v : List Event) (es fs : List Event) (start mid later : List ℕ) → v ≡ all_after w es
      → mid ≡ start ++ item_lines names (items c there w es) → later ≡ mid ++ item_lines names (items c there v fs)
      → later ≡ start ++ item_lines names (items c there w (es ++ fs))
  calls_both names w v es fs start mid later waits before after =
      subst (λ (xs : List Item). later ≡ start ++ item_lines names xs) (sym (items-append w es fs))
      (lines_both names (items c there w es) (items c there (all_after w es) fs) start mid later before
      (subst (λ (x : List Event). later ≡ mid ++ item_lines names (items c there x fs)) waits after))

  -- one more of some
  pub call_more : (names : List (List ℕ)) (w v : List Event) (start text later : List ℕ) (notes : List Note) (i : ℕ) (d : Note) → i < length notes
      → v ≡ all_after w (map event_of (take i notes)) → text ≡ start ++ item_lines names (items c there w (map event_of (take i notes)))
      → later ≡ text ++ item_lines names (items c there v (event_of (get_or notes i d) ∷ []))
      → later ≡ start ++ item_lines names (items c there w (map event_of (take (i + 1) notes)))
  call_more names w v start text later notes i d inside waits before after =
      let last = event_of (get_or notes i d) in
      let all : map event_of (take (i + 1) notes) ≡ map event_of (take i notes) ++ last ∷ [] =
      ap (map event_of) (take_more notes i d inside) ∙ map-append event_of (take i notes) (get_or notes i d ∷ []) in
      subst (λ (es : List Event). later ≡ start ++ item_lines names (items c there w es)) (sym all)
      (calls_both names w v (map event_of (take i notes)) (last ∷ []) start text later waits before after)

pub waits_more : (w v u : List Event) (notes : List Note) (i : ℕ) (d : Note) → i < length notes → v ≡ all_after w (map event_of (take i notes))
    → u ≡ waiting_after v (event_of (get_or notes i d)) → u ≡ all_after w (map event_of (take (i + 1) notes))
waits_more w v u notes i d inside before after =
    let last = event_of (get_or notes i d) in
    let all : map event_of (take (i + 1) notes) ≡ map event_of (take i notes) ++ last ∷ [] =
    ap (map event_of) (take_more notes i d inside) ∙ map-append event_of (take i notes) (get_or notes i d ∷ []) in
    after ∙ (ap (λ (x : List Event). waiting_after x last) before
    ∙ (sym (all-append w (map event_of (take i notes)) (last ∷ [])) ∙ ap (all_after w) (sym all)))

-- the end of a run
pub end_lines : (names : List (List ℕ)) (c : ℕ) (there : Event → Happening) (w : List Event) (answer : Turn) (j : ℕ) (end : Outcome) (text later : List ℕ)
    → answer ≡ Ended j end → later ≡ text ++ item_lines names (items c there w (event.End ∷ []))
    → later ≡ text ++ item_lines names (items c there w (end_events answer))
end_lines names c there w answer j end text later is line =
    subst (λ (a : Turn). later ≡ text ++ item_lines names (items c there w (end_events a))) (sym is) line
