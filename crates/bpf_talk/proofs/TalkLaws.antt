-- Where a conversation is, line by line and read by read.
use Rattle.std.proofs.Common.{◌≡◌, ◌∙◌, ℕ, ◌+◌, ◌^◌, ◌≤◌, ◌⊎◌, inl, inr, Bool, true, false, List, [], ◌∷◌, ◌++◌, length, length-append}
use Rattle.std.proofs.Common.{take, ap, refl, sym, subst, append_assoc, append-nil, arith}
use Rattle.std.specs.Prelude.{◌||◌, All, IsUtf8}
use Rattle.std.proofs.lemmas.List.{take_all}
use Rattle.std.proofs.lemmas.List.Elements.{All-cons, All-nil, All-push}
use Rattle.bpf_lines.specs.Lines.{lines_of}
use Rattle.bpf_talk.specs.Terminal.{Call, Read, AreWrites, IsPut, IsSaid, before_reads, bytes_read, bytes_written, is_none}
use Rattle.bpf_talk.specs.Talking.{Told, Answering, AnswersLines, AreTold, EndsEarly, IsAt, IsCaughtUp, IsSaidWhy, IsStopped, Talks}
use Rattle.bpf_talk.specs.Talking.{any_refused, is_unread, is_unwritten, line_text, said, stop_line}
use Rattle.bpf_talk.specs.declared.talking.Stop.{Stop}
use Rattle.bpf_talk.specs.declared.talking.Stop.TheVariants as stop
use Rattle.bpf_talk.specs.declared.talking.Talked.{Talked}
use Rattle.bpf_talk.specs.declared.talking.Talked.TheVariants as talked
use Rattle.bpf_talk.proofs.LinesRead.{lines_on}
use Rattle.bpf_talk.proofs.TerminalLaws.{begins, ended_same, flushed_more, read_same, reads_same, written_more}

pub or_none : (b : Bool) → (b || false) ≡ b
or_none true = refl
or_none false = refl

pub or_assoc : (a b c : Bool) → ((a || b) || c) ≡ (a || (b || c))
or_assoc true b c = refl
or_assoc false b c = refl

refused_more : (tolds : List Told) (text : List ℕ) (refused : Bool) → any_refused (tolds ++ (text, refused) ∷ []) ≡ (any_refused tolds || refused)
refused_more [] text refused = or_none refused
refused_more ((t, r) ∷ tolds) text refused = ap (λ (b : Bool). r || b) (refused_more tolds text refused) ∙ sym (or_assoc r (any_refused tolds) refused)

abbrev nothing : List ℕ
nothing = []

take_none : (k : ℕ) → take k nothing ≡ nothing
take_none k = take_all k nothing (omega arith)

some_bytes : (bytes : List ℕ) → (length bytes ≡ 0 → ⊥) → is_none bytes ≡ false
some_bytes [] some = absurd (some refl)
some_bytes (b ∷ bytes) some = refl

no_bytes : (bytes : List ℕ) → length bytes ≡ 0 → bytes ≡ []
no_bytes [] e = refl
no_bytes (b ∷ bytes) e = absurd (omega arith)

keeps_any : (why : Stop) → (calls more : List Call) (left : List (List ℕ)) → AreWrites more → EndsEarly why left calls → EndsEarly why left (more ++ calls)
keeps_any stop.Unread calls more left w e = tt
keeps_any stop.TooLong calls more [] w e = absurd e
keeps_any stop.TooLong calls more (line ∷ left) w (inl long) = inl long
keeps_any stop.TooLong calls more (line ∷ left) w (inr many) = inr (subst (λ (bytes : List ℕ). 2 ^ 64 ≤ length bytes + 1) (sym (read_same more calls w)) many)
keeps_any stop.NotText calls more [] w e = absurd e
keeps_any stop.NotText calls more (line ∷ left) w e = e
keeps_any stop.OutOfMemory calls more left w e = tt
keeps_any stop.Unwritten calls more left w e = absurd e

module _ {S : Type 0} (answers : Answering S) (echo : Bool) (x : S) where
  -- ---- one line more

  script_more : (y m z : S) (lines : List (List ℕ)) (tolds : List Told) (line text : List ℕ) (refused : Bool) → AnswersLines answers y lines
      tolds m → answers m z line text refused
      → AnswersLines answers y (lines ++ line ∷ []) (tolds ++ (text, refused) ∷ []) z
  script_more y m z [] [] line text refused runs one = (z, subst (λ (s : S). answers s z line text refused) runs one, refl)
  script_more y m z (l ∷ lines) ((t, r) ∷ tolds) line text refused runs one = (runs.0, runs.1, script_more runs.0 m z lines tolds line text refused runs.2 one)
  script_more y m z [] (told ∷ tolds) line text refused runs one = absurd runs
  script_more y m z (l ∷ lines) [] line text refused runs one = absurd runs

  said_more : (y m : S) (lines : List (List ℕ)) (tolds : List Told) (line text : List ℕ) (refused : Bool) → AnswersLines answers y lines tolds m
      → said echo (lines ++ line ∷ []) (tolds ++ (text, refused) ∷ []) ≡ said echo lines tolds ++ line_text echo line text
  said_more y m [] [] line text refused runs = append-nil (line_text echo line text)
  said_more y m (l ∷ lines) ((t, r) ∷ tolds) line text refused runs =
      ap (λ (s : List ℕ). line_text echo l t ++ s) (said_more runs.0 m lines tolds line text refused runs.2)
      ∙ sym (append_assoc (line_text echo l t) (said echo lines tolds) (line_text echo line text))
  said_more y m [] (told ∷ tolds) line text refused runs = absurd runs
  said_more y m (l ∷ lines) [] line text refused runs = absurd runs

  abbrev Turns : List (List Call) → Type 0
  Turns = All (IsCaughtUp answers echo x)

  pub at_next : (Old New : List Call → Type 0) (more : List Call) → ((calls : List Call) → Old calls → New (more ++ calls))
      → (old new : S) (line : List ℕ) (left : List (List ℕ)) (size : ℕ) (ended refused : Bool) (text : List ℕ) (one : Bool)
      → IsUtf8 line → answers old new line text one → IsSaid (line_text echo line text) more
      → IsAt answers Old echo x old (line ∷ left) size ended refused → IsAt answers New echo x new left size ended (refused || one)
  at_next Old New more on old new line left size ended refused text one utf8 answered put
      (calls, lines, before, reached, cut, told, turns, sized, over, denies) =
      let writes = put.0.0 in
      let read = read_same more calls writes in (
        more ++ calls,
        lines ++ line ∷ [],
        before ++ (text, one) ∷ [],
        on calls reached,
        ap lines_of read ∙ cut ∙ sym (append_assoc lines (line ∷ []) left),
        (
          (script_more x old new lines before line text one told.0.0 answered, All-push IsUtf8 lines line told.0.1 utf8),
          written_more more calls ∙ ap (λ (t : List ℕ). t ++ bytes_written more) told.1 ∙ ap (λ (t : List ℕ). said echo lines before ++ t) put.0.1
              ∙ sym (said_more x old lines before line text one told.0.0),
          flushed_more more calls put.1 told.2,
        ),
        subst Turns (sym (reads_same more calls writes)) turns,
        ap (λ (bytes : List ℕ). length bytes) read ∙ sized,
        ended_same more calls writes ∙ over,
        refused_more before text one ∙ ap (λ (b : Bool). b || one) denies,
      )

  -- it ends here
  pub stopped_at : (Old New : List Call → Type 0) → ((calls : List Call) → Old calls → New calls)
      → (old : S) (left : List (List ℕ)) (size : ℕ) (ended refused : Bool) (why : Stop) → is_unwritten why ≡ false
      → ((calls : List Call) → length (bytes_read calls) ≡ size → EndsEarly why left calls)
      → IsAt answers Old echo x old left size ended refused → IsStopped answers New echo x why
  stopped_at Old New on old left size ended refused stop.Unread e early (calls, lines, before, reached, cut, told, turns, sized, over, denies) =
      (calls, old, lines, left, before, on calls reached, cut, told, early calls sized, turns)
  stopped_at Old New on old left size ended refused stop.TooLong e early (calls, lines, before, reached, cut, told, turns, sized, over, denies) =
      (calls, old, lines, left, before, on calls reached, cut, told, early calls sized, turns)
  stopped_at Old New on old left size ended refused stop.NotText e early (calls, lines, before, reached, cut, told, turns, sized, over, denies) =
      (calls, old, lines, left, before, on calls reached, cut, told, early calls sized, turns)
  stopped_at Old New on old left size ended refused stop.OutOfMemory e early (calls, lines, before, reached, cut, told, turns, sized, over, denies) =
      (calls, old, lines, left, before, on calls reached, cut, told, early calls sized, turns)
  stopped_at Old New on old left size ended refused stop.Unwritten e early at = cc

  -- what a line is answered couldn't be written whole
  pub cut_at : (Old New : List Call → Type 0) (more : List Call) → ((calls : List Call) → Old calls → New (more ++ calls))
      → (old new : S) (line : List ℕ) (left : List (List ℕ)) (size : ℕ) (ended refused : Bool) (text : List ℕ) (one : Bool) (k : ℕ)
      → IsUtf8 line → answers old new line text one → IsPut (take k (line_text echo line text)) more
      → IsAt answers Old echo x old (line ∷ left) size ended refused → IsStopped answers New echo x stop.Unwritten
  cut_at Old New more on old new line left size ended refused text one k utf8 answered put
      (calls, lines, before, reached, cut, told, turns, sized, over, denies) =
      let writes = put.0 in
      let begun = said echo lines before in
      let all = said echo (lines ++ line ∷ []) (before ++ (text, one) ∷ []) in
      let whole : all ≡ begun ++ (line_text echo line text ++ []) =
      said_more x old lines before line text one told.0.0 ∙ ap (λ (t : List ℕ). begun ++ t) (sym (append-nil (line_text echo line text))) in (
        more ++ calls,
        new,
        lines ++ line ∷ [],
        left,
        before ++ (text, one) ∷ [],
        length (begun ++ take k (line_text echo line text)),
        on calls reached,
        ap lines_of (read_same more calls writes) ∙ cut ∙ sym (append_assoc lines (line ∷ []) left),
        (script_more x old new lines before line text one told.0.0 answered, All-push IsUtf8 lines line told.0.1 utf8),
        written_more more calls ∙ ap (λ (t : List ℕ). t ++ bytes_written more) told.1 ∙ ap (λ (t : List ℕ). begun ++ t) put.1
            ∙ begins begun (line_text echo line text) [] all k whole,
        subst Turns (sym (reads_same more calls writes)) turns,
      )

  -- ---- one read more

  at_read : (Old New : List Call → Type 0) (bytes : List ℕ) → ((calls : List Call) → Old calls → New (Read bytes ∷ calls))
      → (now : S) (held : List ℕ) (size : ℕ) (ended refused : Bool)
      → IsAt answers Old echo x now (held ∷ []) size ended refused → IsAt answers New echo x now (lines_of (held ++ bytes))
      (size + length bytes) (is_none bytes) refused
  at_read Old New bytes on now held size ended refused (calls, lines, before, reached, cut, told, turns, sized, over, denies) = (
    Read bytes ∷ calls,
    lines,
    before,
    on calls reached,
    lines_on (bytes_read calls) bytes lines held cut,
    told,
    All-cons (IsCaughtUp answers echo x) calls (before_reads calls) (lines, held, before, now, cut, told) turns,
    length-append (bytes_read calls) bytes ∙ ap (λ (n : ℕ). n + length bytes) sized,
    refl,
    denies,
  )

  pub at_heard : (Old New : List Call → Type 0) (bytes held all : List ℕ) (n : ℕ) →
      ((calls : List Call) → Old calls → New (Read bytes ∷ calls)) → all ≡ held ++ bytes → length bytes ≡ n → (n ≡ 0 → ⊥)
      → (now : S) (size : ℕ) (ended refused : Bool)
      → IsAt answers Old echo x now (held ∷ []) size ended refused → IsAt answers New echo x now (lines_of all) (size + n) false refused
  at_heard Old New bytes held all n on is long some now size ended refused at =
      subst (λ (k : ℕ). IsAt answers New echo x now (lines_of all) (size + k) false refused) long
      (subst (λ (b : Bool). IsAt answers New echo x now (lines_of all) (size + length bytes) b refused) (some_bytes bytes (λ none. some (sym long ∙ none)))
      (subst (λ (t : List ℕ). IsAt answers New echo x now (lines_of t) (size + length bytes) (is_none bytes) refused) (sym is)
      (at_read Old New bytes on now held size ended refused at)))

  -- nothing was read, since there is no more
  pub at_over : (Old New : List Call → Type 0) (bytes held all : List ℕ) → length bytes ≡ 0 → all ≡ held ++ bytes →
      ((calls : List Call) → Old calls → New (Read bytes ∷ calls))
      → (now : S) (size : ℕ) (ended refused : Bool)
      → IsAt answers Old echo x now (held ∷ []) size ended refused → IsAt answers New echo x now (all ∷ []) size true refused
  at_over Old New bytes held all none is on now size ended refused (calls, lines, before, reached, cut, told, turns, sized, over, denies) =
      let same : bytes_read calls ++ bytes ≡ bytes_read calls = ap (λ (t : List ℕ). bytes_read calls ++ t) (no_bytes bytes none) ∙
      append-nil (bytes_read calls) in
      let all_held : all ≡ held = is ∙ ap (λ (t : List ℕ). held ++ t) (no_bytes bytes none) ∙ append-nil held in (
        Read bytes ∷ calls,
        lines,
        before,
        on calls reached,
        ap lines_of same ∙ cut ∙ ap (λ (t : List ℕ). lines ++ t ∷ []) (sym all_held),
        told,
        All-cons (IsCaughtUp answers echo x) calls (before_reads calls) (lines, held, before, now, cut, told) turns,
        ap (λ (t : List ℕ). length t) same ∙ sized,
        ap is_none (no_bytes bytes none),
        denies,
      )

  pub at_same : (Reached : List Call → Type 0) (now : S) (left left' : List (List ℕ)) (size : ℕ) (ended refused refused' : Bool)
      → left ≡ left' → refused ≡ refused' → IsAt answers Reached echo x now left size ended refused → IsAt answers Reached echo x now left' size ended refused'
  at_same Reached now left left' size ended refused refused' p q at =
      subst (λ (b : Bool). IsAt answers Reached echo x now left' size ended b) q
      (subst (λ (ls : List (List ℕ)). IsAt answers Reached echo x now ls size ended refused) p at)

  pub at_first : (Reached : List Call → Type 0) → Reached [] → IsAt answers Reached echo x x ([] ∷ []) 0 false false
  at_first Reached reached = ([], [], [], reached, refl, ((refl, All-nil IsUtf8), refl, refl), All-nil (IsCaughtUp answers echo x), refl, refl, refl)

  -- a read failed, or what it brought found no room
  stops : (New : List Call → Type 0) (now : S) (left : List (List ℕ)) (size : ℕ) (ended refused : Bool) (why : Stop) →
      ((why ≡ stop.Unread) ⊎ (why ≡ stop.OutOfMemory))
      → IsAt answers New echo x now left size ended refused → IsStopped answers New echo x why
  stops New now left size ended refused why (inl is) at =
      subst (λ (w : Stop). IsStopped answers New echo x w) (sym is)
      (stopped_at New New (λ calls p. p) now left size ended refused stop.Unread refl (λ calls sized. tt) at)
  stops New now left size ended refused why (inr is) at =
      subst (λ (w : Stop). IsStopped answers New echo x w) (sym is)
      (stopped_at New New (λ calls p. p) now left size ended refused stop.OutOfMemory refl (λ calls sized. tt) at)

  kept : (Old New : List Call → Type 0) → ((calls : List Call) → Old calls → New calls) → (now : S) (left : List (List ℕ)) (size : ℕ) (ended refused : Bool)
      → IsAt answers Old echo x now left size ended refused → IsAt answers New echo x now left size ended refused
  kept Old New on now left size ended refused (calls, lines, before, reached, cut, told, turns, sized, over, denies) =
      (calls, lines, before, on calls reached, cut, told, turns, sized, over, denies)

  pub lost_at : (Old Step New : List Call → Type 0) (on : (calls more : List Call) → Old calls → Step more → New (more ++ calls)) (now : S)
      (held : List ℕ) (size : ℕ) (ended refused : Bool) (why : Stop)
      → ((bytes : List ℕ) × Step (Read bytes ∷ [])) ⊎ Step [] → ((why ≡ stop.Unread) ⊎ (why ≡ stop.OutOfMemory))
      → IsAt answers Old echo x now (held ∷ []) size ended refused → IsStopped answers New echo x why
  lost_at Old Step New on now held size ended refused why (inl (bytes, step)) reason at =
      stops New now (lines_of (held ++ bytes)) (size + length bytes) (is_none bytes) refused why reason
      (at_read Old New bytes (λ calls p. on calls (Read bytes ∷ []) p step) now held size ended refused at)
  lost_at Old Step New on now held size ended refused why (inr step) reason at =
      stops New now (held ∷ []) size ended refused why reason (kept Old New (λ calls p. on calls [] p step) now (held ∷ []) size ended refused at)

  -- ---- the end

  abbrev Ended : (List Call → Type 0) → S → (unread unwritten : Bool) → Talked → Type 0
  Ended Reached last unread unwritten told = (calls : List Call) × Reached calls × Talks answers echo x last calls unread unwritten told

  pub over : (Reached : List Call → Type 0) (last : S) (size : ℕ) (refused unread unwritten : Bool) → unread ≡ false → unwritten ≡ false
      → IsAt answers Reached echo x last [] size true refused → (calls : List Call) × Reached calls × Talks answers echo x last calls unread
      unwritten (talked.Over refused)
  over Reached last size refused unread unwritten quiet works (calls, lines, before, reached, cut, told, turns, sized, ended, denies) = (
    calls,
    reached,
    (
      turns,
      (
        (
          before,
          ended,
          subst (λ (ls : List (List ℕ)). AreTold answers echo x ls before last calls) (sym (cut ∙ append-nil lines)) told,
          sym denies,
        ),
        quiet,
        works,
      ),
    ),
  )

  abbrev Early : (List Call → Type 0) → Stop → Type 0
  Early Old why = (calls : List Call) × (y : S) × (lines left : List (List ℕ)) × (tolds : List Told) × Old calls
      × (lines_of (bytes_read calls) ≡ lines ++ left) × AreTold answers echo x lines tolds y calls × EndsEarly why left calls × Turns (before_reads calls)

  -- what is stopped while something can be written
  early : (Old Says New : List Call → Type 0) (on : (calls more : List Call) → Old calls → Says more → New (more ++ calls)) (last : S)
      (why : Stop) (unread unwritten : Bool) (end : Talked)
      → unread ≡ is_unread why → IsSaidWhy Says why unwritten end → Early Old why → Ended New last unread unwritten end
  early Old Says New on last why unread unwritten end reads (inl (more, says, put, works, written, meant))
      (calls, y, lines, left, before, reached, cut, told, ends, turns) =
      let writes = put.0.0 in
      subst (Ended New last unread unwritten) (sym meant) (
        more ++ calls,
        on calls more reached says,
        (
          subst Turns (sym (reads_same more calls writes)) turns,
          (
            (
              y,
              lines,
              left,
              before,
              ap lines_of (read_same more calls writes) ∙ cut,
              told.0,
              written_more more calls ∙ ap (λ (t : List ℕ). t ++ bytes_written more) told.1 ∙ ap (λ (t : List ℕ). said echo lines before ++ t) put.0.1,
              flushed_more more calls put.1 told.2,
              keeps_any why calls more left writes ends,
            ),
            reads,
            written,
          ),
        ),
      )
  early Old Says New on last why unread unwritten end reads (inr (k, more, says, put, written, meant))
      (calls, y, lines, left, before, reached, cut, told, ends, turns) =
      let writes = put.0 in
      let text = said echo lines before in
      subst (Ended New last unread unwritten) (sym meant) (
        more ++ calls,
        on calls more reached says,
        (
          subst Turns (sym (reads_same more calls writes)) turns,
          (
            (
              why,
              y,
              lines,
              left,
              before,
              length (text ++ take k (stop_line why)),
              ap lines_of (read_same more calls writes) ∙ cut,
              told.0,
              written_more more calls ∙ ap (λ (t : List ℕ). t ++ bytes_written more) told.1 ∙ ap (λ (t : List ℕ). text ++ t) put.1
                  ∙ begins text (stop_line why) [] (text ++ stop_line why) k (ap (λ (t : List ℕ). text ++ t) (sym (append-nil (stop_line why)))),
            ),
            written,
          ),
        ),
      )

  -- what is stopped since nothing can be written any more
  lost : (Old Says New : List Call → Type 0) (on : (calls more : List Call) → Old calls → Says more → New (more ++ calls)) (last : S)
      (unread unwritten : Bool) (end : Talked)
      → IsSaidWhy Says stop.Unwritten unwritten end → IsStopped answers Old echo x stop.Unwritten → Ended New last unread unwritten end
  lost Old Says New on last unread unwritten end (inl (more, says, put, works, written, meant)) at = cc
  lost Old Says New on last unread unwritten end (inr (k, more, says, put, written, meant))
      (calls, y, lines, left, before, n, reached, cut, told, wrote, turns) =
      let writes = put.0 in
      let text = said echo lines before in
      subst (Ended New last unread unwritten) (sym meant) (
        more ++ calls,
        on calls more reached says,
        (
          subst Turns (sym (reads_same more calls writes)) turns,
          (
            (
              stop.Unwritten,
              y,
              lines,
              left,
              before,
              n,
              ap lines_of (read_same more calls writes) ∙ cut,
              told,
              written_more more calls ∙ ap (λ (t : List ℕ). bytes_written calls ++ t) (put.1 ∙ take_none k) ∙ append-nil
                  (bytes_written calls) ∙ wrote ∙ ap (take n) (sym (append-nil text)),
            ),
            written,
          ),
        ),
      )

  pub ends : (Old Says New : List Call → Type 0) (on : (calls more : List Call) → Old calls → Says more → New (more ++ calls)) (last : S)
      (why : Stop) (unread unwritten : Bool) (end : Talked)
      → unread ≡ is_unread why → IsSaidWhy Says why unwritten end → IsStopped answers Old echo x why
      → (calls : List Call) × New calls × Talks answers echo x last calls unread unwritten end
  ends Old Says New on last stop.Unread unread unwritten end reads says at = early Old Says New on last stop.Unread unread unwritten end reads says at
  ends Old Says New on last stop.TooLong unread unwritten end reads says at = early Old Says New on last stop.TooLong unread unwritten end reads says at
  ends Old Says New on last stop.NotText unread unwritten end reads says at = early Old Says New on last stop.NotText unread unwritten end reads says at
  ends Old Says New on last stop.OutOfMemory unread unwritten end reads says at = early Old Says New on last stop.OutOfMemory unread unwritten end reads says at
  ends Old Says New on last stop.Unwritten unread unwritten end reads says at = lost Old Says New on last unread unwritten end says at
