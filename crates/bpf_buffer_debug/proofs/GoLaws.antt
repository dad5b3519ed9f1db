-- How far a `go` has come, turn by turn.
use Rattle.std.proofs.Common.{◌≡◌, ℕ, ◌+◌, ◌<◌, Bool, true, false, ◌||◌, List, [], ◌∷◌, ◌++◌, length, get_or, inl, inr, ◌⊎◌, refl}
use Rattle.std.proofs.Common.{sym, ap, subst, ◌∙◌, append_assoc, append-nil, replicate}
use Rattle.std.specs.Prelude.{codes, slice_set, ◌==◌, Option}
use Rattle.std.proofs.lemmas.List.{get_or-replicate, get_or-set_same, get_or-set_other}
use Rattle.std.proofs.lemmas.Bool.{eq-eqb, ne_eqb}
use Rattle.bpf_shared.proofs.Puts.{equal_or_not}
use Rattle.bpf_shared.specs.declared.events.Event.{Event}
use Rattle.bpf_cpu.specs.Task.{Task}
use Rattle.bpf_machine.specs.declared.machine.Turn.{Turn}
use Rattle.bpf_x86.specs.Machine.{X86, FlushOf}
use Rattle.bpf_buffering.specs.Search.{BufferedState, ShowsX86, MovesTo, buffer_at}
use Rattle.bpf_buffering.specs.Buffering.{TurnsTo}
use Rattle.bpf_debug.specs.declared.breakpoint.Breakpoint.{Breakpoint}
use Rattle.bpf_debug.specs.Answer.{changed_line, ended_text, stop_line}
use Rattle.bpf_debug.specs.Course.{KeepsOn}
use Rattle.bpf_debug.specs.Go.{AreIdle, IsUp, StandsAt, has_break, has_gone}
use Rattle.bpf_debug.proofs.CourseLaws.{keeps_none, keeps_more}
use Rattle.bpf_debug.specs.Watch.{ShowsOther, ShowsWatched, Watched}
use Rattle.bpf_buffer_debug.specs.Go.{Changes, Done, FlushChanges, Flushes, Goes, Stops, Turns, flush_changed_line, memory_values}

-- what is kept of the moves
abbrev pub Notes : Type 0
Notes = Option (List (ℕ × ℕ))

-- ---- a flush, or none
abbrev pub FlushesTo : Notes → Bool → BufferedState → ℕ → Notes → BufferedState → Type 0
FlushesTo old flushes m c new n =
    (moves : List ℕ) × KeepsOn old moves new
    × ((x : X86) → ShowsX86 m x → (z : X86) × Flushes flushes x c moves z × ShowsX86 n z)

pub not_asked : (notes : Notes) (m : BufferedState) (c : ℕ) → FlushesTo notes false m c notes m
not_asked notes m c = ([], keeps_none notes, λ x shows. (x, (refl, refl), shows))

pub none_waits : (notes : Notes) (m n : BufferedState) (c : ℕ) → n ≡ m → buffer_at m.buffers c ≡ [] → FlushesTo notes true m c notes n
none_waits notes m n c same none = (
  [],
  keeps_none notes,
  λ x shows.
      let empty : x.buffers c ≡ [] = ap (λ (f : ℕ → List Event). f c) shows.buffers ∙ none in
      (x, inl (empty, refl, refl), subst (λ (s : BufferedState). ShowsX86 s x) (sym same) shows),
)

pub flushed : (notes more : Notes) (m n : BufferedState) (c : ℕ) → MovesTo m (FlushOf c) n → KeepsOn notes ((128 + c) ∷ []) more →
    FlushesTo notes true m c more n
flushed notes more m n c moves keeps = ((128 + c) ∷ [], keeps, λ x shows. let t = moves x shows in (t.0, inr (t.1, refl), t.2))

-- ---- what is watched
-- it is as it was
still : (watch : Option Watched) (values : List (Option (List ℕ))) (m n : BufferedState) (x z : X86) → ShowsWatched m.machine.store watch values
    → ShowsWatched n.machine.store watch values → ShowsX86 m x → ShowsX86 n z → memory_values watch z ≡ memory_values watch x
still watch values m n x z was is old new =
    is z.world.store new.world.sound new.world.store ∙ sym (was x.world.store old.world.sound old.world.store)

-- it isn't
another : (watch : Option Watched) (values : List (Option (List ℕ))) (m n : BufferedState) (x z : X86) → ShowsWatched m.machine.store watch values
    → ShowsOther n.machine.store watch values → ShowsX86 m x → ShowsX86 n z → memory_values watch z ≡ memory_values watch x → ⊥
another watch values m n x z was other old new same =
    other z.world.store new.world.sound new.world.store (same ∙ was x.world.store old.world.sound old.world.store)

-- ---- how far it has come
pub record Reached (breaks : List Breakpoint) (watch : Option Watched) (flushes : Bool) (low high : ℕ) (noted : Notes) (x : X86)
    (new : BufferedState) («from» : ℕ) (marks : List Bool) (notes : Notes) (after : List ℕ) : Type 0
  where
    pub here : X86
    pub moves : List ℕ
    pub gone : List ℕ
    pub shows : ShowsX86 new here
    pub keeps : KeepsOn noted moves notes
    pub marked : (c : ℕ) → c < 256 → get_or marks c false ≡ has_gone gone c
    pub onward : (rest more : List ℕ) (z : X86) → Goes breaks watch flushes low high here «from» gone rest more z
        → Goes breaks watch flushes low high x low [] (moves ++ rest) (after ++ more) z

abbrev pub Comes : List Breakpoint → Option Watched → Bool → ℕ → ℕ → Notes → BufferedState → BufferedState → ℕ → List Bool → Notes → List ℕ → Type 0
Comes breaks watch flushes low high noted old new «from» marks notes after =
    (x : X86) → ShowsX86 old x → Reached breaks watch flushes low high noted x new «from» marks notes after

pub starts : (breaks : List Breakpoint) (watch : Option Watched) (flushes : Bool) (low high : ℕ) (noted : Notes) (old : BufferedState)
    (after : List ℕ) → after ≡ [] →
    Comes breaks watch flushes low high noted old old low (replicate 256 false) noted after
starts breaks watch flushes low high noted old after empty x shows = record {
  here = x;
  moves = [];
  gone = [];
  shows = shows;
  keeps = keeps_none noted;
  marked = λ c small. get_or-replicate 256 c false false small;
  onward = λ rest more z goes. subst (λ (s : List ℕ). Goes breaks watch flushes low high x low [] rest (s ++ more) z) (sym empty) goes;
}

has_gone-cons : (c : ℕ) (gone : List ℕ) (d : ℕ) → has_gone (c ∷ gone) d ≡ ((c == d) || has_gone gone d)
has_gone-cons c gone d = refl

-- the mark of a CPU that has made its turn
marked_more : (marks : List Bool) (gone : List ℕ) (c : ℕ) → c < length marks → ((d : ℕ) → d < 256 → get_or marks d false ≡ has_gone gone d)
    → (d : ℕ) → d < 256 → get_or (slice_set marks c true) d false ≡ has_gone (c ∷ gone) d
marked_more marks gone c inside was d small = elim (equal_or_not d c) [
  | inl e ↦
      let P : ℕ → Type 0 = λ n. get_or (slice_set marks c true) n false ≡ has_gone (c ∷ gone) n in
      let gone_now : has_gone (c ∷ gone) c ≡ true = has_gone-cons c gone c ∙ ap (λ (b : Bool). b || has_gone gone c) (eq-eqb c c refl) in
      subst P (sym e) (get_or-set_same marks c true false inside ∙ sym gone_now)
  | inr ne ↦
      let others : has_gone (c ∷ gone) d ≡ has_gone gone d = has_gone-cons c gone d ∙ ap (λ (b : Bool). b || has_gone gone d)
      (ne_eqb c d (λ (e : c ≡ d). ne (sym e))) in
      get_or-set_other marks c d true false ne ∙ was d small ∙ sym others
]

module _ (breaks : List Breakpoint) (watch : Option Watched) (flushes : Bool) (low high : ℕ) (noted : Notes) (old new : BufferedState)
    («from» : ℕ) (marks : List Bool) (notes : Notes) (after : List ℕ)
    (comes : Comes breaks watch flushes low high noted old new «from» marks notes after) where
  -- it may make a turn
  free : (c : ℕ) → c < 256 → ((get_or marks c false ≡ false) ⊎ ((p : ℕ) × StandsAt new.machine.jobs c p × (has_break breaks c p ≡ false)))
      → (gone : List ℕ) (here : X86) → ShowsX86 new here → ((d : ℕ) → d < 256 → get_or marks d false ≡ has_gone gone d)
      → (has_gone gone c ≡ false) ⊎ ((p : ℕ) × StandsAt here.world.jobs c p × (has_break breaks c p ≡ false))
  free c small may gone here shown marked = elim may [
    | inl never ↦ inl (sym (marked c small) ∙ never)
    | inr at ↦ (let P : List Task → Type 0 = λ jobs. StandsAt jobs c at.0 in inr (at.0, subst P (sym shown.world.jobs) at.1, at.2))
  ]

  -- the CPU that is up makes its turn, and a flush after it, which leave the watched value as it was
  pub turned : (mid next : BufferedState) (c : ℕ) (answer : Turn) (between more : Notes) (last : List ℕ) → c < 256 → c < length marks
      → IsUp new.machine.jobs low high «from» c
      → ((get_or marks c false ≡ false) ⊎ ((p : ℕ) × StandsAt new.machine.jobs c p × (has_break breaks c p ≡ false)))
      → TurnsTo new c answer mid → KeepsOn notes (c ∷ []) between → last ≡ after ++ ended_text c answer
      → FlushesTo between flushes mid c more next
      → (values : List (Option (List ℕ))) → ShowsWatched new.machine.store watch values → ShowsWatched mid.machine.store watch values
      → ShowsWatched next.machine.store watch values
      → Comes breaks watch flushes low high noted old next (c + 1) (slice_set marks c true) more last
  turned mid next c answer between more last small inside up may turns keeps put flush values was then now x shows =
      let r = comes x shows in
      let t = turns r.here r.shows in
      let f = flush.2 t.0 t.2 in
      let J : List Task → Type 0 = λ jobs. IsUp jobs low high «from» c in
      let is_up = subst J (sym r.shows.world.jobs) up in
      let made : List ℕ = c ∷ flush.0 in
      record {
        here = f.0;
        moves = r.moves ++ made;
        gone = c ∷ r.gone;
        shows = f.2;
        keeps = keeps_more noted notes more r.moves made r.keeps (keeps_more notes between more (c ∷ []) flush.0 keeps flush.1);
        marked = marked_more marks r.gone c inside r.marked;
        onward = λ rest text z goes. (
            let first = still watch values new mid r.here t.0 was then r.shows t.2 in
            let second = still watch values mid next t.0 f.0 then now t.2 f.2 in
            let one = Turns flush.0 is_up (free c small may r.gone r.here r.shows r.marked) t.1 first f.1 second goes in
            let all = r.onward (c ∷ (flush.0 ++ rest)) (ended_text c answer ++ text) z one in
            let P : List ℕ → Type 0 = λ xs. Goes breaks watch flushes low high x low [] xs (after ++ (ended_text c answer ++ text)) z in
            let Q : List ℕ → Type 0 = λ xs. Goes breaks watch flushes low high x low [] ((r.moves ++ made) ++ rest) xs z in
            let whole = ap (λ (s : List ℕ). s ++ text) put ∙ append_assoc after (ended_text c answer) text in
            subst Q (sym whole) (subst P (sym (append_assoc r.moves made rest)) all));
      }

  -- what a `go` has made of the machine and the notes, and its text
  abbrev pub Leads : BufferedState → Notes → List ℕ → Type 0
  Leads final kept last =
      (x : X86) → ShowsX86 old x → (z : X86) × (moves : List ℕ) × Goes breaks watch flushes low high x low [] moves last z ×
      ShowsX86 final z × KeepsOn noted moves kept

  -- its turn changes the watched value
  pub changed : (mid : BufferedState) (c : ℕ) (answer : Turn) (between : Notes) (put last : List ℕ) → c < 256
      → IsUp new.machine.jobs low high «from» c
      → ((get_or marks c false ≡ false) ⊎ ((p : ℕ) × StandsAt new.machine.jobs c p × (has_break breaks c p ≡ false)))
      → TurnsTo new c answer mid → KeepsOn notes (c ∷ []) between → put ≡ after ++ ended_text c answer → last ≡ put ++ changed_line c
      → (values : List (Option (List ℕ))) → ShowsWatched new.machine.store watch values → ShowsOther mid.machine.store watch values
      → Leads mid between last
  changed mid c answer between put last small up may turns keeps told said values was other x shows =
      let r = comes x shows in
      let t = turns r.here r.shows in
      let J : List Task → Type 0 = λ jobs. IsUp jobs low high «from» c in
      let is_up = subst J (sym r.shows.world.jobs) up in
      let line = ended_text c answer ++ changed_line c in
      let all : last ≡ after ++ line = said ∙ ap (λ (s : List ℕ). s ++ changed_line c) told ∙ append_assoc after (ended_text c answer) (changed_line c) in
      let G : List ℕ → Type 0 = λ s. Goes breaks watch flushes low high x low [] (r.moves ++ c ∷ []) s t.0 in
      let one = Changes is_up (free c small may r.gone r.here r.shows r.marked) t.1 (another watch values new mid r.here t.0 was other r.shows t.2) in (
        t.0,
        r.moves ++ c ∷ [],
        subst G (sym all) (r.onward (c ∷ []) line t.0 one),
        t.2,
        keeps_more noted notes between r.moves (c ∷ []) r.keeps keeps,
      )

  -- its turn doesn't, and the flush after it does
  pub flush_changed : (mid next : BufferedState) (c : ℕ) (answer : Turn) (between more : Notes) (put last : List ℕ) → c < 256
      → IsUp new.machine.jobs low high «from» c
      → ((get_or marks c false ≡ false) ⊎ ((p : ℕ) × StandsAt new.machine.jobs c p × (has_break breaks c p ≡ false)))
      → TurnsTo new c answer mid → KeepsOn notes (c ∷ []) between → put ≡ after ++ ended_text c answer
      → FlushesTo between flushes mid c more next → last ≡ put ++ flush_changed_line c
      → (values : List (Option (List ℕ))) → ShowsWatched new.machine.store watch values → ShowsWatched mid.machine.store watch values
      → ShowsOther next.machine.store watch values → Leads next more last
  flush_changed mid next c answer between more put last small up may turns keeps told flush said values was then other x shows =
      let r = comes x shows in
      let t = turns r.here r.shows in
      let f = flush.2 t.0 t.2 in
      let J : List Task → Type 0 = λ jobs. IsUp jobs low high «from» c in
      let is_up = subst J (sym r.shows.world.jobs) up in
      let made : List ℕ = c ∷ flush.0 in
      let line = ended_text c answer ++ flush_changed_line c in
      let all : last ≡ after ++ line = said ∙ ap (λ (s : List ℕ). s ++ flush_changed_line c) told
      ∙ append_assoc after (ended_text c answer) (flush_changed_line c) in
      let G : List ℕ → Type 0 = λ s. Goes breaks watch flushes low high x low [] (r.moves ++ made) s f.0 in
      let first = still watch values new mid r.here t.0 was then r.shows t.2 in
      let one = FlushChanges flush.0 is_up (free c small may r.gone r.here r.shows r.marked) t.1 first f.1
      (another watch values mid next t.0 f.0 then other t.2 f.2) in (
        f.0,
        r.moves ++ made,
        subst G (sym all) (r.onward made line f.0 one),
        f.2,
        keeps_more noted notes more r.moves made r.keeps (keeps_more notes between more (c ∷ []) flush.0 keeps flush.1),
      )

  pub ended : (last : List ℕ) → AreIdle new.machine.jobs low high → last ≡ after ++ codes "done\n" → Leads new notes last
  ended last idle put x shows =
      let r = comes x shows in
      let J : List Task → Type 0 = λ jobs. AreIdle jobs low high in
      let still = subst J (sym r.shows.world.jobs) idle in
      let G : List ℕ → Type 0 = λ s. Goes breaks watch flushes low high x low [] (r.moves ++ []) s r.here in (
        r.here,
        r.moves ++ [],
        subst G (sym put) (r.onward [] (codes "done\n") r.here (Done still)),
        r.shows,
        subst (λ (cs : List ℕ). KeepsOn noted cs notes) (sym (append-nil r.moves)) r.keeps,
      )

  pub stopped : (c p : ℕ) (last : List ℕ) → c < 256 → IsUp new.machine.jobs low high «from» c → get_or marks c false ≡ true
      → StandsAt new.machine.jobs c p → has_break breaks c p ≡ true → last ≡ after ++ stop_line c p → Leads new notes last
  stopped c p last small up went stands break put x shows =
      let r = comes x shows in
      let J : List Task → Type 0 = λ jobs. IsUp jobs low high «from» c in
      let S : List Task → Type 0 = λ jobs. StandsAt jobs c p in
      let is_up = subst J (sym r.shows.world.jobs) up in
      let G : List ℕ → Type 0 = λ s. Goes breaks watch flushes low high x low [] (r.moves ++ []) s r.here in (
        r.here,
        r.moves ++ [],
        subst G (sym put) (r.onward [] (stop_line c p) r.here (Stops is_up (sym (r.marked c small) ∙ went)
            (subst S (sym r.shows.world.jobs) stands) break)),
        r.shows,
        subst (λ (cs : List ℕ). KeepsOn noted cs notes) (sym (append-nil r.moves)) r.keeps,
      )
