-- What each use with no fault keeps of the rows, a walk with no fault keeps.
use Rattle.std.proofs.Common.{◌≡◌, ◌&&◌, not, ℕ, zero, suc, List, [], ◌∷◌, Bool, true, false, cond, Option, Some, None, is_some, length, drop, refl}
use Rattle.std.specs.Prelude.{IfSome, encode_utf8, find, slice_get}
use Rattle.std.specs.List.{fold}
use Rattle.std.specs.Option.{option_map_or}
use Rattle.std.specs.Str.{bytes_eq, chars}
use Rattle.clap.specs.Kinds.{Kinds, or_else}
use Rattle.clap.specs.Lexer.{long_of, short_of}
use Rattle.clap.specs.Simple.{Shape}
use Rattle.clap.specs.Faults.{bundle_fault, bundle_step_fault, flag_word_fault, flags_fault, long_fault, option_fault, other_fault}
use Rattle.clap.specs.Faults.{positional_fault, react_fault, settle_fault, short_fault, step_fault, stray_fault, turn_fault, use_fault}
use Rattle.clap.specs.Faults.{walk_fault, word_fault}
use Rattle.clap.specs.declared.error.kind.ErrorKind.TheVariants as kind
use Rattle.clap.specs.Walk.{Held, Names, Outcome, Row, Rule, Step, Text, Waiting, Walk, after_flag, after_step, arg_by_id, arg_by_index}
use Rattle.clap.specs.Walk.{arg_by_long, arg_by_short, attached_value, bundle_met, bundle_step, done, flag_met, has_long, has_short, idle}
use Rattle.clap.specs.Walk.{is_pending, long_met, long_or_other, next, option, option_met, option_word, plain, plain_word, positional}
use Rattle.clap.specs.Walk.{positional_held, reacted, refused, settled, settled_rows, short_met, short_or_plain, subcommand, subcommand_met}
use Rattle.clap.specs.Walk.{subcommand_or_other, takes_several, takes_values, to_positional, trailing, used, used_by_id, value, waits}
use Rattle.clap.specs.Walk.{walked, walked_from, word_met}

pub first_free : (a b : Kinds) → or_else a b ≡ [] → a ≡ []
first_free [] b e = refl
first_free (k ∷ ks) b e = cc

pub last_free : (a b : Kinds) → or_else a b ≡ [] → b ≡ []
last_free [] b e = e
last_free (k ∷ ks) b e = cc

-- a use of the argument with no fault keeps P of the rows
abbrev pub Keeps : (List Row → Type 0) → Bool → Rule → Type 0
Keeps P again a = (values : List Text) (rows : List Row) → use_fault again a values rows ≡ [] → P rows → P (used a values rows)

module _ (P : List Row → Type 0) (c : List Rule) (again : Bool) (keeps : (test : Rule → Bool) → IfSome (find test c) (Keeps P again)) where
  found_kept : (a : Option Rule) → IfSome a (Keeps P again) → (values : List Text) (rows : List Row)
      → option_map_or (λ a. use_fault again a values rows) a [] ≡ [] → P rows → P (used_by_id a values rows)
  found_kept None k values rows e held = held
  found_kept (Some a) k values rows e held = k values rows e held

  pending_kept : (p : Option (Text × List Text)) (rows : List Row)
      → option_map_or (λ p. option_map_or (λ a. use_fault again a p.1 rows) (arg_by_id c p.0) []) p [] ≡ [] → P rows → P (settled_rows c p rows)
  pending_kept None rows e held = held
  pending_kept (Some p) rows e held = found_kept (arg_by_id c p.0) (keeps (λ a. bytes_eq a.id p.0)) p.1 rows e held

  pub settle_kept : (h : Held) → settle_fault c again h ≡ [] → P h.rows → P (settled c h).rows
  settle_kept h e held = pending_kept h.pending h.rows e held

  react_kept : (a : Rule) → Keeps P again a → (values : List Text) (h : Held) → react_fault c again a values h ≡ [] → P h.rows → P (reacted c a values h).rows
  react_kept a k values h e held =
      let settle = settle_fault c again h in
      let used_so = use_fault again a values (settled c h).rows in
      k values (settled c h).rows (last_free settle used_so e) (settle_kept h (first_free settle used_so e) held)

  option_kept : (a : Rule) → Keeps P again a → (v : Option Text) (h : Held) → option_fault c again a v h ≡ [] → P h.rows → P (option_met c a v h).0.rows
  option_kept a k (Some v) h e held = react_kept a k (v ∷ []) h e held
  option_kept a k None h e held = settle_kept h e held

  flag_kept : (a : Rule) → Keeps P again a → (v : Option Text) (h : Held)
      → cond (is_some v) (kind.TooManyValues ∷ []) (react_fault c again a [] h) ≡ [] → P h.rows → P (flag_met c a v h).0.rows
  flag_kept a k (Some v) h e held = held
  flag_kept a k None h e held = react_kept a k [] h e held

  long_kept : (a : Option Rule) → IfSome a (Keeps P again) → (v : Option Text) (h : Held) → long_fault c again a v h ≡ [] → P h.rows → P
      (long_met c a v h).0.rows
  long_kept None k v h e held = held
  long_kept (Some a) k v h e held =
      elim (takes_values a) as (λ b. cond b (option_fault c again a v h) (cond (is_some v) (kind.TooManyValues ∷ []) (react_fault c again a [] h)) ≡ []
      → P (cond b (option_met c a v h) (flag_met c a v h)).0.rows) [
        | true ↦ λ e. option_kept a k v h e held
        | false ↦ λ e. flag_kept a k v h e held
      ] e

  short_kept : (a : Option Rule) → IfSome a (Keeps P again) → (rest : Text) (h : Held) (after : Held → Held × Outcome) (fault : Held → Kinds)
      → ((h : Held) → fault h ≡ [] → P h.rows → P (after h).0.rows) → short_fault c again a rest h fault ≡ [] → P h.rows → P (short_met c a rest h after).0.rows
  short_kept None k rest h after fault kept e held = held
  short_kept (Some a) k rest h after fault kept e held =
      let v = attached_value rest in
      elim (takes_values a) as (λ b. cond b (option_fault c again a v h) (or_else (react_fault c again a [] h) (fault (reacted c a [] h))) ≡ []
      → P (cond b (option_met c a v h) (after (reacted c a [] h))).0.rows) [
        | true ↦ λ e. option_kept a k v h e held
        | false ↦ λ e. kept (reacted c a [] h) (last_free (react_fault c again a [] h) (fault (reacted c a [] h)) e)
            (react_kept a k [] h (first_free (react_fault c again a [] h) (fault (reacted c a [] h)) e) held)
      ] e

  bundle_step_kept : (x : Option ℕ) (flags : Text) (skip : ℕ) (so_far : Outcome) (h : Held)
      (after : Text → ℕ → Outcome → Held → Held × Outcome) (fault : Text → ℕ → Held → Kinds)
      → ((flags : Text) (skip : ℕ) (so_far : Outcome) (h : Held) → fault flags skip h ≡ [] → P h.rows → P (after flags skip so_far h).0.rows)
      → bundle_step_fault c again x flags skip h fault ≡ [] → P h.rows → P (bundle_step c x flags skip so_far h after).0.rows
  bundle_step_kept None flags skip so_far h after fault kept e held = held
  bundle_step_kept (Some x) flags zero so_far h after fault kept e held =
      let rest = drop (length (encode_utf8 x)) flags in
      short_kept (arg_by_short c x) (keeps (λ a. not (is_some a.index) && has_short a x)) rest h (after rest 0 done) (fault rest 0) (kept rest 0 done) e held
  bundle_step_kept (Some x) flags (suc skip) so_far h after fault kept e held = kept (drop (length (encode_utf8 x)) flags) skip so_far h e held

  bundle_kept : (k : ℕ) (flags : Text) (skip : ℕ) (so_far : Outcome) (h : Held) → flags_fault c again k flags skip h ≡ [] → P h.rows → P
      (bundle_met c k flags skip so_far h).0.rows
  unfolding bundle_met flags_fault
  bundle_kept zero flags skip so_far h e held = held
  bundle_kept (suc k) flags skip so_far h e held =
      bundle_step_kept (slice_get (chars flags) 0) flags skip so_far h (bundle_met c k) (flags_fault c again k) (bundle_kept k) e held

  waiting_kept : (a : Option Rule) (id word : Text) (h : Held) → P h.rows → P (option_word a id word h).0.rows
  waiting_kept None id word h held = held
  waiting_kept (Some a) id word h held = held

  plain_kept : (waiting : Waiting) (word : Text) (h : Held) → P h.rows → P (plain_word c waiting word h).0.rows
  plain_kept idle word h held = held
  plain_kept (option id) word h held = waiting_kept (arg_by_id c id) id word h held
  plain_kept positional word h held = held

  after_kept : (waiting : Waiting) (word : Text) (h : Held) (outcome : Outcome) → P h.rows → P (after_flag c waiting word h outcome).0.rows
  after_kept waiting word h done held = held
  after_kept waiting word h (waits id) held = held
  after_kept waiting word h plain held = plain_kept waiting word h held
  after_kept waiting word h refused held = plain_kept waiting word h held

  short_word_kept : (waiting : Waiting) (word : Text) (flags : Option Text) (h : Held)
      → option_map_or (λ flags. bundle_fault c again flags h) flags [] ≡ [] → P h.rows → P (short_or_plain c waiting word flags h).0.rows
  short_word_kept waiting word None h e held = plain_kept waiting word h held
  short_word_kept waiting word (Some flags) h e held =
      let met = bundle_met c (length flags) flags h.skip plain (record h { skip = 0 }) in
      after_kept waiting word met.0 met.1 (bundle_kept (length flags) flags h.skip plain (record h { skip = 0 }) e held)

  flag_word_kept : (waiting : Waiting) (word : Text) (parts : Option (Text × Option Text)) (h : Held)
      → flag_word_fault c again parts word h ≡ [] → P h.rows → P (long_or_other c waiting word parts h).0.rows
  flag_word_kept waiting word None h e held = short_word_kept waiting word (short_of word) h e held
  flag_word_kept waiting word (Some p) h e held =
      let met = long_met c (arg_by_long c p.0) p.1 h in
      after_kept waiting word met.0 met.1
      (long_kept (arg_by_long c p.0) (keeps (λ a. not (is_some a.index) && has_long a p.0)) p.1 h e held)

  other_kept : (waiting : Waiting) (position : ℕ) (word : Text) (h : Held)
      → cond (bytes_eq word (45 ∷ 45 ∷ [])) [] (flag_word_fault c again (long_of word) word h) ≡ [] → P h.rows
      → P (subcommand_or_other c None waiting position word h).0.rows
  other_kept waiting position word h e held =
      elim (bytes_eq word (45 ∷ 45 ∷ [])) as (λ b. cond b [] (flag_word_fault c again (long_of word) word h) ≡ []
      → P (cond b (h, trailing position) (long_or_other c waiting word (long_of word) h)).0.rows) [
        | true ↦ λ e. held
        | false ↦ λ e. flag_word_kept waiting word (long_of word) h e held
      ] e

  positional_kept : (a : Rule) (word : Text) (h : Held) → positional_fault c again a h ≡ [] → P h.rows → P (positional_held c a word h).rows
  positional_kept a word h e held =
      elim (is_pending a h.pending && takes_several a) as (λ b. cond b [] (settle_fault c again h) ≡ [] → P (cond b h (settled c h)).rows) [
        | true ↦ λ e. held
        | false ↦ λ e. settle_kept h e held
      ] e

  to_positional_kept : (a : Option Rule) (word : Text) (w : Walk) (h : Held) (stray : Kinds)
      → option_map_or (λ a. positional_fault c again a h) a stray ≡ [] → P h.rows → P (to_positional c a word w h).held.rows
  to_positional_kept None word w h stray e held = held
  to_positional_kept (Some a) word w h stray e held = positional_kept a word h e held

module _ (P : List Row → Type 0) (s : Shape) (names : Names)
    (keeps : (test : Rule → Bool) → IfSome (find test s.rules) (Keeps P s.args_override_self)) where
  subcommand_kept : (name : Option Text) (waiting : Waiting) (position : ℕ) (word : Text) (h : Held)
      → other_fault s name word h ≡ [] → P h.rows → P (subcommand_or_other s.rules name waiting position word h).0.rows
  subcommand_kept None waiting position word h e held = other_kept P s.rules s.args_override_self keeps waiting position word h e held
  subcommand_kept (Some name) waiting position word h e held = held

  word_kept : (is_trailing : Bool) (waiting : Waiting) (position : ℕ) (word : Text) (h : Held)
      → word_fault s names is_trailing waiting word h ≡ [] → P h.rows → P (word_met s.rules names is_trailing waiting position word h).0.rows
  word_kept true waiting position word h e held = held
  word_kept false waiting position word h e held = subcommand_kept (subcommand_met names waiting word) waiting position word h e held

  step_kept : (word : Text) (w : Walk) (h : Held) (step : Step) → step_fault s w.position h step ≡ [] → P h.rows → P
      (after_step s.rules word w h step).held.rows
  step_kept word w h (next waiting) e held = held
  step_kept word w h (trailing position) e held = held
  step_kept word w h (subcommand name) e held = held
  step_kept word w h value e held = to_positional_kept P s.rules s.args_override_self keeps (arg_by_index s.rules w.position) word w h (stray_fault s) e held

  turn_kept : (w : Walk) (word : Text) → turn_fault s names w word ≡ [] → P w.held.rows → P (walked s.rules names w word).held.rows
  unfolding walked
  turn_kept w word e held =
      let met = word_met s.rules names w.is_trailing w.waiting w.position word w.held in
      let first = word_fault s names w.is_trailing w.waiting word w.held in
      let second = step_fault s w.position met.0 met.1 in
      elim w.stopped as (λ stopped. cond (is_some stopped) [] (or_else first second) ≡ [] → P (walked_from s.rules names stopped w word).held.rows) [
        | Some p ↦ λ e. held
        | None ↦ λ e. step_kept word w met.0 met.1 (last_free first second e)
            (word_kept w.is_trailing w.waiting w.position word w.held (first_free first second e) held)
      ] e

  -- the walk over all the words
  pub walk_kept : (words : List Text) (w : Walk) → walk_fault s names w words ≡ [] → P w.held.rows → P (fold (walked s.rules names) w words).held.rows
  unfolding walk_fault
  walk_kept [] w e held = held
  walk_kept (word ∷ rest) w e held =
      let turn = turn_fault s names w word in
      let later = walk_fault s names (walked s.rules names w word) rest in
      walk_kept rest (walked s.rules names w word) (last_free turn later e) (turn_kept w word (first_free turn later e) held)
