-- Reading a text line by line, and what its lines mean one after the other.
use Rattle.std.proofs.Common.{◌≡◌, ℕ, ◌+◌, ◌*◌, ◌<◌, ◌≤◌, zero, suc, add-zero, add-one, Bool, true, false, cond, ◌&&◌, ◌||◌, List, [], ◌∷◌}
use Rattle.std.proofs.Common.{◌++◌, length, length-append, map, get_or, drop, drop-cons, append_assoc, append-nil, Option, Some, None}
use Rattle.std.proofs.Common.{Result, Ok, Err, refl, sym, ap, subst, ◌∙◌, arith}
use Rattle.std.specs.Prelude.{option_to_list, All}
use Rattle.std.proofs.lemmas.List.{length-map, drop_all}
use Rattle.bpf_insn.specs.declared.instruction.Insn.{Insn}
use Rattle.bpf_text.specs.declared.error.TextError.{TextError}
use Rattle.bpf_text.specs.declared.labels.Place.{Place}
use Rattle.bpf_text.specs.declared.assembly.Kept.{Kept}
use Rattle.bpf_text.specs.declared.reading.LineError.{LineError}
use Rattle.bpf_text.specs.declared.reading.LineError.TheVariants.{BadLine, BadNumber, UnknownName}
use Rattle.bpf_text.specs.Private.Labels.{or_else}
use Rattle.bpf_text.specs.Private.Sources.{source_of, KeptLine, kept_view, nothing_is, nothing_said, is_refused, any_refused, is_left_out}
use Rattle.bpf_text.specs.Private.Sources.{kept_of, kept_program, Gathers}
use Rattle.bpf_lines.specs.Lines.{lines_behind, rest_size}
use Rattle.bpf_text.specs.Symbols.{Table}
use Rattle.bpf_text.specs.Assembly.{Source, IsLineWith, AreLinesWith, words_of, is_named, is_twice, first_place, body_meaning, meaning_of}
use Rattle.bpf_text.specs.Assembly.{then_meaning, program_of}
use Rattle.bpf_lines.specs.Lines.{lines_of}
use Rattle.bpf_text.specs.Line.{Written}

-- ---- lines

-- the text's lines are these, and then those of the rest
pub record LinesRead (names : Option Table) (text : List ℕ) (done : List Source) (rest : Option (List ℕ)) : Type 0 where
  pub on : (ss : List Source) → AreLinesWith names (lines_behind rest) ss → AreLinesWith names (lines_of text) (done ++ ss)

pub lines_start : (names : Option Table) (text : List ℕ) → LinesRead names text [] (Some text)
lines_start names text = record { on = λ ss h. h }

pub lines_next : (names : Option Table) (text left line : List ℕ) (done : List Source) (behind : Option (List ℕ)) (s : Source) → LinesRead
    names text done (Some left) → lines_of left ≡ line ∷ lines_behind behind → IsLineWith names line s → LinesRead names text (done ++ s ∷ []) behind
lines_next names text left line done behind s r e l = record {
  on = λ ss h.
      let P : List (List ℕ) → Type 0 = λ ls. AreLinesWith names ls (s ∷ ss) in
      let Q : List Source → Type 0 = λ all. AreLinesWith names (lines_of text) all in
      subst Q (sym (append_assoc done (s ∷ []) ss)) (r.on (s ∷ ss) (subst P (sym e) (l, h)));
}

pub lines_end : (names : Option Table) (text : List ℕ) (done : List Source) → LinesRead names text done None → AreLinesWith names (lines_of text) done
lines_end names text done r = let Q : List Source → Type 0 = λ all. AreLinesWith names (lines_of text) all in subst Q (append-nil done) (r.on [] tt)

-- ---- labels

-- how many words some lines have
abbrev pub words_before : List Source → ℕ
words_before [] = 0
words_before (s ∷ ss) = words_of s.body + words_before ss

pub words_before-append : (ss : List Source) (s : Source) → words_before (ss ++ s ∷ []) ≡ words_before ss + words_of s.body
words_before-append [] s = omega arith
words_before-append (t ∷ ss) s = let h = words_before-append ss s in omega arith

first_by : (q : List ℕ) (b : Bool) (o : Option (List ℕ)) (x y r : Option Place) (p : Place) → y ≡ or_else x r → cond b (Some p) y ≡ or_else
    (cond b (Some p) x) r
first_by q true o x y r p e = refl
first_by q false o x y r p e = e

pub first_place-append : (ss : List Source) (s : Source) (line pc : ℕ) (q : List ℕ) → first_place (ss ++ s ∷ []) line pc q ≡ or_else
    (first_place ss line pc q) (cond (is_named q s.label) (Some (record { line = line + length ss; pc = pc + words_before ss })) None)
first_place-append [] s line pc q = rw (add-zero line, add-zero pc) refl
first_place-append (t ∷ ss) s line pc q =
    let lines : (line + 1) + length ss ≡ line + suc (length ss) = omega arith in
    let words : (pc + words_of t.body) + words_before ss ≡ pc + (words_of t.body + words_before ss) = omega arith in
    let P : ℕ → ℕ → Type 0 = λ l w. first_place (ss ++ s ∷ []) (line + 1) (pc + words_of t.body) q ≡ or_else
    (first_place ss (line + 1) (pc + words_of t.body) q) (cond (is_named q s.label) (Some (record { line = l; pc = w })) None) in
    let rest = first_place-append ss s (line + 1) (pc + words_of t.body) q in
    first_by q (is_named q t.label) t.label (first_place ss (line + 1) (pc + words_of t.body) q) _ _ (record { line = line; pc = pc })
    (subst (λ l. P l (pc + (words_of t.body + words_before ss))) lines (subst (λ w. P ((line + 1) + length ss) w) words rest))

-- one more line
pub labels_next : (f g : List ℕ → Option Place) (done new : List Source) (s : Source) (line pc : ℕ) →
    ((q : List ℕ) → f q ≡ first_place done 0 0 q) → line ≡ length done → pc ≡ words_before done → new ≡ done ++ s ∷ []
    → ((q : List ℕ) → g q ≡ or_else (f q) (cond (is_named q s.label) (Some (record { line = line; pc = pc })) None)) → (q : List ℕ) → g q ≡
    first_place new 0 0 q
labels_next f g done new s line pc h l w n k q =
    let at : ℕ → ℕ → Option Place = λ x y. or_else (first_place done 0 0 q) (cond (is_named q s.label) (Some (record { line = x; pc = y })) None) in
    let lines : line ≡ 0 + length done = omega arith in
    let words : pc ≡ 0 + words_before done = omega arith in
    k q
    ∙ ap (λ x. or_else x (cond (is_named q s.label) (Some (record { line = line; pc = pc })) None)) (h q)
    ∙ ap (λ x. at x pc) lines
    ∙ ap (λ y. at (0 + length done) y) words
    ∙ sym (first_place-append done s 0 0 q)
    ∙ ap (λ d. first_place d 0 0 q) (sym n)

pub words_next : (done : List Source) (s : Source) (pc size : ℕ) → pc ≡ words_before done → size ≡ words_of s.body → pc + size ≡ words_before (done ++ s ∷ [])
words_next done s pc size h e = omega (arith, words_before-append done s)

-- ---- lines that say something

-- a line that says nothing isn't refused
said_nothing : (s : Source) → nothing_said s ≡ true → is_refused s.body ≡ false
said_nothing s h = by_parts s.label s.body h
  where
    by_parts : (label : Option (List ℕ)) (body : Result (Option Written) LineError) → nothing_is label body ≡ true → is_refused body ≡ false
    by_parts label (Ok o) h = refl
    by_parts None (Err e) h = cc
    by_parts (Some l) (Err e) h = cc

-- what a line that is passed over leaves refused
passed_over : (c n r rest : Bool) → (n ≡ true → r ≡ false) → (n || (c && r)) ≡ true → (c || rest) ≡ (c || (r || rest))
passed_over true n r rest h e = refl
passed_over false true false rest h e = refl
passed_over false true true rest h e = let e = h refl in cc
passed_over false false r rest h e = cc

kept_behind : (a b c : Bool) → ((a || b) || c) ≡ (a || (b || c))
kept_behind true b c = refl
kept_behind false b c = refl

kept_of-append : (c : Bool) (line : ℕ) (ss : List Source) (s : Source) → kept_of c line (ss ++ s ∷ []) ≡ kept_of c line ss ++ kept_of
    (c || any_refused ss) (line + length ss) (s ∷ [])
kept_of-append c line [] s = ap (λ n. kept_of c n (s ∷ [])) (sym (add-zero line)) ∙ ap (λ d. kept_of d (line + 0) (s ∷ [])) (sym (or_nothing c))
  where
    or_nothing : (b : Bool) → (b || false) ≡ b
    or_nothing true = refl
    or_nothing false = refl
kept_of-append c line (t ∷ ss) s =
    let next : (line + 1) + length ss ≡ line + suc (length ss) = omega arith in
    let all = line + suc (length ss) in
    let over : (d : Bool) → kept_of d (line + 1) (ss ++ s ∷ []) ≡ kept_of d (line + 1) ss ++ kept_of (d || any_refused ss) all (s ∷ []) =
    λ d. kept_of-append d (line + 1) ss s ∙ ap (λ n. kept_of d (line + 1) ss ++ kept_of (d || any_refused ss) n (s ∷ [])) next in
    by_test (is_left_out c t) refl (over c) (over (c || is_refused t.body))
  where
    by_test : (b : Bool) → is_left_out c t ≡ b
        → kept_of c (line + 1) (ss ++ s ∷ []) ≡ kept_of c (line + 1) ss ++ kept_of (c || any_refused ss) (line + suc (length ss)) (s ∷ [])
        → kept_of (c || is_refused t.body) (line + 1) (ss ++ s ∷ []) ≡ kept_of (c || is_refused t.body) (line + 1) ss ++ kept_of
        ((c || is_refused t.body) || any_refused ss) (line + suc (length ss)) (s ∷ [])
        → cond b (kept_of c (line + 1) (ss ++ s ∷ [])) (record { line = line; source = t } ∷ kept_of (c || is_refused t.body) (line + 1) (ss ++ s ∷ []))
        ≡ cond b (kept_of c (line + 1) ss) (record { line = line; source = t } ∷ kept_of (c || is_refused t.body) (line + 1) ss) ++ kept_of
        (c || (is_refused t.body || any_refused ss)) (line + suc (length ss)) (s ∷ [])
    by_test true e more other =
        let same = passed_over c (nothing_said t) (is_refused t.body) (any_refused ss) (said_nothing t) e in
        more ∙ ap (λ d. kept_of c (line + 1) ss ++ kept_of d (line + suc (length ss)) (s ∷ [])) same
    by_test false e other more =
        let same = kept_behind c (is_refused t.body) (any_refused ss) in
        ap (λ ks. record { line = line; source = t } ∷ ks)
        (more ∙ ap (λ d. kept_of (c || is_refused t.body) (line + 1) ss ++ kept_of d (line + suc (length ss)) (s ∷ [])) same)

any_refused-append : (ss : List Source) (s : Source) → any_refused (ss ++ s ∷ []) ≡ (any_refused ss || is_refused s.body)
any_refused-append [] s = or_none (is_refused s.body)
  where
    or_none : (b : Bool) → (b || false) ≡ b
    or_none true = refl
    or_none false = refl
any_refused-append (t ∷ ss) s = ap (λ b. is_refused t.body || b) (any_refused-append ss s) ∙ sym
    (kept_behind (is_refused t.body) (any_refused ss) (is_refused s.body))

-- what is known of a text after some of its lines
pub record Gathered (names : Option Table) (text : List ℕ) (rest : Option (List ℕ)) (labels : List ℕ → Option Place) (line pc : ℕ)
    (refused : Bool) (kept : List KeptLine) : Type 0 where
  pub sources : List Source
  pub lines : LinesRead names text sources rest
  pub places : (q : List ℕ) → labels q ≡ first_place sources 0 0 q
  pub words : pc ≡ words_before sources
  pub count : line ≡ length sources
  pub kept_lines : kept ≡ kept_of false 0 sources
  pub refusal : refused ≡ any_refused sources
  pub bound : line + rest_size rest ≤ length text + 1

pub gathered_start : (names : Option Table) (text : List ℕ) (labels : List ℕ → Option Place) (kept : List KeptLine) →
    ((q : List ℕ) → labels q ≡ None) → kept ≡ [] → Gathered names text (Some text) labels 0 0 false kept
gathered_start names text labels kept h e = record {
  sources = [];
  lines = lines_start names text;
  places = h;
  words = refl;
  count = refl;
  kept_lines = e;
  refusal = refl;
  bound = omega arith;
}

pub gathered_next : (names : Option Table) (text left first : List ℕ) (behind : Option (List ℕ)) (f g : List ℕ → Option Place)
    (line pc size : ℕ) (refused after : Bool) (kept new : List KeptLine) (s : Source) → Gathered names text (Some left) f line pc refused
    kept → lines_of left ≡ first ∷ lines_behind behind
    → rest_size behind ≤ length left → IsLineWith names first s →
    ((q : List ℕ) → g q ≡ or_else (f q) (cond (is_named q s.label) (Some (record { line = line; pc = pc })) None)) → size ≡ words_of
    s.body → new ≡ kept ++ kept_of refused line (s ∷ []) → after ≡ (refused || is_refused s.body)
    → Gathered names text behind g (line + 1) (pc + size) after new
gathered_next names text left first behind f g line pc size refused after kept new s r cut shorter l k e n c = record {
  sources = r.sources ++ s ∷ [];
  lines = lines_next names text left first r.sources behind s r.lines cut l;
  places = labels_next f g r.sources (r.sources ++ s ∷ []) s line pc r.places r.count r.words refl k;
  words = words_next r.sources s pc size r.words e;
  count = omega (arith, r.count, length-append r.sources (s ∷ []));
  kept_lines = n ∙ ap (λ ks. ks ++ kept_of refused line (s ∷ [])) r.kept_lines
      ∙ ap (λ m. kept_of false 0 r.sources ++ kept_of refused m (s ∷ [])) (omega (arith, r.count))
      ∙ ap (λ d. kept_of false 0 r.sources ++ kept_of d (0 + length r.sources) (s ∷ [])) r.refusal
      ∙ sym (kept_of-append false 0 r.sources s);
  refusal = c ∙ ap (λ d. d || is_refused s.body) r.refusal ∙ sym (any_refused-append r.sources s);
  bound = omega (arith, r.bound);
}

pub gathered_end : (names : Option Table) (text : List ℕ) (labels : List ℕ → Option Place) (line pc : ℕ) (refused : Bool)
    (kept : List KeptLine) → Gathered names text None labels line pc refused kept → Gathers names text labels kept
gathered_end names text labels line pc refused kept r = record {
  sources = r.sources;
  lines = lines_end names text r.sources r.lines;
  places = r.places;
  kept_lines = r.kept_lines;
}

-- lines that are kept lie among all lines
abbrev Below : ℕ → List KeptLine → Type 0
Below n [] = Unit {0}
Below n (k ∷ ks) = (k.line < n) × Below n ks

below_kept : (c : Bool) (line : ℕ) (ss : List Source) (n : ℕ) → line + length ss ≤ n → Below n (kept_of c line ss)
below_kept c line [] n h = tt
below_kept c line (s ∷ ss) n h =
    let first : line < n = omega arith in
    by_test (is_left_out c s) first (below_kept c (line + 1) ss n (omega arith)) (below_kept (c || is_refused s.body) (line + 1) ss n (omega arith))
  where
    by_test : (b : Bool) → line < n → Below n (kept_of c (line + 1) ss) → Below n (kept_of (c || is_refused s.body) (line + 1) ss) → Below n
        (cond b (kept_of c (line + 1) ss) (record { line = line; source = s } ∷ kept_of (c || is_refused s.body) (line + 1) ss))
    by_test true h more other = more
    by_test false h other more = (h, more)

below_each : (n : ℕ) (ks : List Kept) → Below n (map kept_view ks) → (i : ℕ) (d : Kept) → i < length ks → (get_or ks i d).line < n
below_each n [] h i d lt = absurd (omega arith)
below_each n (k ∷ ks) h zero d lt = h.0
below_each n (k ∷ ks) h (suc i) d lt = below_each n ks h.1 i d (omega arith)

pub short_lines : (names : Option Table) (text : List ℕ) (rest : Option (List ℕ)) (labels : List ℕ → Option Place) (line pc n : ℕ)
    (refused : Bool) (ks : List Kept) → Gathered names text rest labels line pc refused (map kept_view ks) → line ≤ n → All (λ k. k.line < n) ks
short_lines names text rest labels line pc n refused ks r h =
    let P : List KeptLine → Type 0 = λ xs. Below n xs in
    below_each n ks (subst P (sym r.kept_lines) (below_kept false 0 r.sources n (omega (arith, r.count, h))))

-- lines that say nothing mean nothing
blank_means : (labels : List ℕ → Option Place) (line pc : ℕ) (s : Source) (r : Result (List Insn) TextError) → nothing_said s ≡ true →
    then_meaning (meaning_of labels line pc s) r ≡ r
unfolding meaning_of
blank_means labels line pc s r h = by_parts s.label s.body h r
  where
    by_parts : (label : Option (List ℕ)) (body : Result (Option Written) LineError) → nothing_is label body ≡ true →
        (r : Result (List Insn) TextError) → then_meaning (body_meaning labels (is_twice labels line label) line pc body) r ≡ r
    by_parts None (Ok None) h (Ok is) = refl
    by_parts None (Ok None) h (Err e) = refl
    by_parts None (Ok (Some i)) h r = cc
    by_parts None (Err e) h r = cc
    by_parts (Some l) (Ok None) h r = cc
    by_parts (Some l) (Ok (Some i)) h r = cc
    by_parts (Some l) (Err e) h r = cc

blank_words : (s : Source) → nothing_said s ≡ true → words_of s.body ≡ 0
blank_words s h = by_parts s.label s.body h
  where
    by_parts : (label : Option (List ℕ)) (body : Result (Option Written) LineError) → nothing_is label body ≡ true → words_of body ≡ 0
    by_parts None (Ok None) h = refl
    by_parts None (Ok (Some i)) h = cc
    by_parts None (Err e) h = cc
    by_parts (Some l) (Ok None) h = cc
    by_parts (Some l) (Ok (Some i)) h = cc
    by_parts (Some l) (Err e) h = cc

-- each line that is kept has two words at most, and the others none
refused_words : (s : Source) → is_refused s.body ≡ true → words_of s.body ≡ 0
refused_words s h = by_body s.body h
  where
    by_body : (body : Result (Option Written) LineError) → is_refused body ≡ true → words_of body ≡ 0
    by_body (Ok o) h = cc
    by_body (Err e) h = refl

-- a line that is passed over has no words
passed_words : (c : Bool) (s : Source) → is_left_out c s ≡ true → words_of s.body ≡ 0
passed_words c s h = by_test (nothing_said s) refl h
  where
    by_refusal : (d r : Bool) → is_refused s.body ≡ r → (d && r) ≡ true → words_of s.body ≡ 0
    by_refusal true true e h = refused_words s e
    by_refusal true false e h = cc
    by_refusal false r e h = cc

    by_test : (b : Bool) → nothing_said s ≡ b → (b || (c && is_refused s.body)) ≡ true → words_of s.body ≡ 0
    by_test true e h = blank_words s e
    by_test false e h = by_refusal c (is_refused s.body) refl h

pub small_next : (c : Bool) (kept new : List Kept) (s : Source) (line pc size n m : ℕ) → map kept_view new ≡ map kept_view kept ++ kept_of c
    line (s ∷ []) → size ≡ words_of s.body → size ≤ 2 → n ≡ length kept → m ≡ length new → pc ≤ 2 * n → pc + size ≤ 2 * m
small_next c kept new s line pc size n m e w small a b h =
    let lengths : length new ≡ length kept + length (kept_of c line (s ∷ [])) =
    sym (length-map new kept_view) ∙ ap length e ∙ length-append (map kept_view kept) (kept_of c line (s ∷ [])) ∙ ap
    (λ x. x + length (kept_of c line (s ∷ []))) (length-map kept kept_view) in
    by_test (is_left_out c s) refl lengths
  where
    by_test : (t : Bool) → is_left_out c s ≡ t → length new ≡ length kept + length {A = KeptLine}
        (cond t [] (record { line = line; source = s } ∷ [])) → pc + size ≤ 2 * m
    by_test true f lengths = let none : size ≡ 0 = w ∙ passed_words c s f in omega (arith, none, lengths, a, b, h)
    by_test false f lengths = omega (arith, lengths, a, b, h, small)

-- a refused line means its refusal, whatever follows
refused_means : (labels : List ℕ → Option Place) (line pc : ℕ) (s : Source) (r q : Result (List Insn) TextError) → is_refused s.body ≡ true
    → then_meaning (meaning_of labels line pc s) r ≡ then_meaning (meaning_of labels line pc s) q
unfolding meaning_of
refused_means labels line pc s r q h = by_body s.body h
  where
    by_body : (body : Result (Option Written) LineError) → is_refused body ≡ true → then_meaning
        (body_meaning labels (is_twice labels line s.label) line pc body) r ≡ then_meaning
        (body_meaning labels (is_twice labels line s.label) line pc body) q
    by_body (Ok o) h = cc
    by_body (Err BadLine) h = refl
    by_body (Err BadNumber) h = refl
    by_body (Err UnknownName) h = refl

only_nothing : (n r : Bool) → (n || (false && r)) ≡ n
only_nothing true r = refl
only_nothing false r = refl

pub kept_means : (labels : List ℕ → Option Place) (line pc : ℕ) (ss : List Source) → kept_program labels pc (kept_of false line ss) ≡
    program_of labels line pc ss
kept_means labels line pc [] = refl
kept_means labels line pc (s ∷ ss) = by_test (is_left_out false s) refl (kept_means labels (line + 1) (pc + words_of s.body) ss)
    (kept_means labels (line + 1) pc ss)
  where
    by_refusal : (r : Bool) → is_refused s.body ≡ r → kept_program labels (pc + words_of s.body) (kept_of false (line + 1) ss) ≡ program_of
        labels (line + 1) (pc + words_of s.body) ss
        → then_meaning (meaning_of labels line pc s) (kept_program labels (pc + words_of s.body) (kept_of r (line + 1) ss)) ≡ program_of labels line pc (s ∷ ss)
    by_refusal true e more = refused_means labels line pc s _ _ e
    by_refusal false e more = ap (then_meaning (meaning_of labels line pc s)) more

    by_test : (b : Bool) → is_left_out false s ≡ b → kept_program labels (pc + words_of s.body) (kept_of false (line + 1) ss) ≡ program_of
        labels (line + 1) (pc + words_of s.body) ss
        → kept_program labels pc (kept_of false (line + 1) ss) ≡ program_of labels (line + 1) pc ss
        → kept_program labels pc (cond b (kept_of false (line + 1) ss)
        (record { line = line; source = s } ∷ kept_of (is_refused s.body) (line + 1) ss)) ≡ program_of labels line pc (s ∷ ss)
    by_test true e more same =
        let said : nothing_said s ≡ true = sym (only_nothing (nothing_said s) (is_refused s.body)) ∙ e in
        let none : pc + words_of s.body ≡ pc = omega (arith, blank_words s said) in
        same ∙ ap (λ p. program_of labels (line + 1) p ss) (sym none) ∙ sym
        (blank_means labels line pc s (program_of labels (line + 1) (pc + words_of s.body) ss) said)
    by_test false e more same = by_refusal (is_refused s.body) refl more

-- ---- the second pass

-- some instructions, and then those of an outcome
abbrev pub behind : List Insn → Result (List Insn) TextError → Result (List Insn) TextError
behind done (Ok is) = Ok (done ++ is)
behind done (Err e) = Err e

pub behind_nothing : (r : Result (List Insn) TextError) → behind [] r ≡ r
behind_nothing (Ok is) = refl
behind_nothing (Err e) = refl

behind_one : (done : List Insn) (o : Option Insn) (r : Result (List Insn) TextError) → behind (done ++ option_to_list o) r ≡ behind done (then_meaning (Ok o) r)
behind_one done o (Ok is) = ap Ok (append_assoc done (option_to_list o) is)
behind_one done o (Err e) = refl

abbrev Meaning : Type 0
Meaning = Result (List Insn) TextError

next_lines : (lines : List Kept) (i : ℕ) (d : Kept) → i < length lines → map kept_view (drop i lines) ≡ kept_view (get_or lines i d) ∷ map
    kept_view (drop (i + 1) lines)
next_lines lines i d h = ap (map kept_view) (drop-cons lines i d h) ∙ ap (λ k. kept_view (get_or lines i d) ∷ map kept_view (drop k lines)) (sym (add-one i))

pub meant_next : (labels : List ℕ → Option Place) (lines : List Kept) (i pc : ℕ) (d : Kept) (done new : List Insn) (o : Option Insn)
    (size : ℕ) (whole : Meaning) → i < length lines
    → behind done (kept_program labels pc (map kept_view (drop i lines))) ≡ whole → Ok o ≡ meaning_of labels (get_or lines i d).line pc
    (source_of (get_or lines i d).source) → new ≡ done ++ option_to_list o
    → size ≡ words_of (source_of (get_or lines i d).source).body → behind new (kept_program labels (pc + size) (map kept_view (drop (i + 1) lines))) ≡ whole
meant_next labels lines i pc d done new o size whole lt h e n w =
    let rest = kept_program labels (pc + words_of (source_of (get_or lines i d).source).body) (map kept_view (drop (i + 1) lines)) in
    ap (λ x. behind new (kept_program labels (pc + x) (map kept_view (drop (i + 1) lines)))) w ∙ ap (λ x. behind x rest) n ∙ behind_one done o rest
    ∙ ap (λ m. behind done (then_meaning m rest)) e ∙ ap (λ x. behind done (kept_program labels pc x)) (sym (next_lines lines i d lt)) ∙ h

pub meant_whole : (labels : List ℕ → Option Place) (lines : List Kept) (i pc : ℕ) (done : List Insn) (whole : Meaning) → length lines ≤ i
    → behind done (kept_program labels pc (map kept_view (drop i lines))) ≡ whole → whole ≡ Ok done
meant_whole labels lines i pc done whole le h = sym h ∙ ap (λ x. behind done (kept_program labels pc (map kept_view x)))
    (drop_all i lines le) ∙ ap Ok (append-nil done)
