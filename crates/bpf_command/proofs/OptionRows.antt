-- An option's values among the rows that a parse found are those that the matches' getters give.
use Rattle.std.proofs.Common.{Bool, cond, true, false, ◌≡◌, ◌<◌, ◌≤◌, ◌^◌, ◌∙◌, List, ℕ, Option, Some, None, Result, Ok, Err, codes, inr}
use Rattle.std.proofs.Common.{refl, arith, subst, ap, sym}
use Rattle.std.specs.Prelude.{◌&&◌, IfSome, IsSomeAnd, is_some, option_and_then}
use Rattle.bpf_explain.specs.Term.{topic_of}
use Rattle.bpf_explain.specs.declared.topic.Topic.{Topic}
use Rattle.std.specs.Str.{bytes_eq}
use Rattle.std.specs.Str.Parse.{ParsesUnsigned}
use Rattle.clap.specs.Matches.{ReadsOne}
use Rattle.clap.specs.Values.{IsUnsignedIn}
use Rattle.clap.specs.Words.{Row, Text, first_of, first_value, one_of, one_text, rows_of}
use Rattle.clap.specs.declared.parser.matches.Found.{Found}
use Rattle.clap.specs.Facts.{is_present}
use Rattle.clap.specs.Takes.{is_given}
use Rattle.clap.proofs.TakesLemmas.{present_row}
use Rattle.clap.proofs.WalkLemmas.{first_value-rows, one_text-rows}
use Rattle.bpf_command.specs.CommandLine.{HasCount, HasLimited, IsCount, IsLimited, NamesCount, NamesLimited, NamesParts, counts_alone, do_clash, names_parts}
use Rattle.bpf_command.specs.declared.command.TheConstants.{MAX_PARTS}
use Rattle.bpf_command.specs.Names.{AreMoves, IsContext, IsSchedule, RefusesBy, RefusesContext, RefusesFound, RefusesMoves, RefusesSchedule}
use Rattle.bpf_command.specs.Names.{file_in, file_named}
use Rattle.bpf_command.specs.declared.command_line.CommandError.{CommandError}
use Rattle.bpf_command.specs.declared.command_line.CommandError.TheVariants as error

pub context_in_rows : (f : Found) (bytes : List ℕ) → IsContext (first_value f (codes "ctx")) bytes → IsContext (first_of (codes "ctx") (rows_of f)) bytes
context_in_rows f bytes h = rw (← first_value-rows f (codes "ctx")) h

pub no_context_in_rows : (f : Found) (e : CommandError) → RefusesContext (first_value f (codes "ctx")) e → RefusesContext (first_of (codes "ctx") (rows_of f)) e
no_context_in_rows f e h = rw (← first_value-rows f (codes "ctx")) h

pub asm_refused : (rows : List Row) (e : CommandError) → RefusesContext (first_of (codes "ctx") rows) e → RefusesFound (codes "asm", rows) e
asm_refused rows e h = by_text (first_of (codes "ctx") rows) e refl h
  where
    by_text : (text : Option Text) (e : CommandError) → first_of (codes "ctx") rows ≡ text → RefusesContext text e → RefusesFound (codes "asm", rows) e
    by_text text error.NotHex same h = (inr refl, subst (λ (t : Option Text). RefusesContext t error.NotHex) (sym same) h)
    by_text text error.OutOfMemory same h = tt
    by_text None e same h = absurd h
    by_text (Some t) e same h = absurd h

pub schedule_in_rows : (f : Found) (runs : List (ℕ × ℕ)) → IsSchedule (first_value f (codes "by")) runs → IsSchedule (first_of (codes "by") (rows_of f)) runs
schedule_in_rows f runs h = rw (← first_value-rows f (codes "by")) h

pub moves_in_rows : (f : Found) (runs : List (ℕ × ℕ)) → AreMoves (first_value f (codes "by")) runs → AreMoves (first_of (codes "by") (rows_of f)) runs
moves_in_rows f runs h = rw (← first_value-rows f (codes "by")) h

-- what isn't taken for a schedule, or for moves beside `--x86`, is refused
pub no_moves_in_rows : (f : Found) (e : CommandError) → do_clash (rows_of f) ≡ false → counts_alone (rows_of f) ≡ false → is_given
    (codes "x86") (rows_of f) ≡ true
    → RefusesMoves (first_value f (codes "by")) e → RefusesFound (codes "run", rows_of f) e
no_moves_in_rows f e one counted asked h = by_error (first_of (codes "by") (rows_of f)) e refl (rw (← first_value-rows f (codes "by")) h)
  where
    by_error : (text : Option Text) (e : CommandError) → first_of (codes "by") (rows_of f) ≡ text → RefusesMoves text e → RefusesFound
        (codes "run", rows_of f) e
    by_error text error.OutOfMemory same h = tt
    by_error (Some text) error.NoSchedule same h =
        let by : RefusesBy true (first_of (codes "by") (rows_of f)) error.NoSchedule = subst
        (λ (t : Option Text). RefusesMoves t error.NoSchedule) (sym same) h in
        (refl, one, counted, subst (λ (b : Bool). RefusesBy b (first_of (codes "by") (rows_of f)) error.NoSchedule) (sym asked) by)
    by_error None e same h = absurd h
    by_error (Some t) e same h = absurd h

pub no_turns_in_rows : (f : Found) (e : CommandError) → do_clash (rows_of f) ≡ false → counts_alone (rows_of f) ≡ false → is_given
    (codes "x86") (rows_of f) ≡ false
    → RefusesSchedule (first_value f (codes "by")) e → RefusesFound (codes "run", rows_of f) e
no_turns_in_rows f e one counted asked h = by_error (first_of (codes "by") (rows_of f)) e refl (rw (← first_value-rows f (codes "by")) h)
  where
    by_error : (text : Option Text) (e : CommandError) → first_of (codes "by") (rows_of f) ≡ text → RefusesSchedule text e → RefusesFound
        (codes "run", rows_of f) e
    by_error text error.OutOfMemory same h = tt
    by_error (Some text) error.NoSchedule same h =
        let by : RefusesBy false (first_of (codes "by") (rows_of f)) error.NoSchedule = subst
        (λ (t : Option Text). RefusesSchedule t error.NoSchedule) (sym same) h in
        (refl, one, counted, subst (λ (b : Bool). RefusesBy b (first_of (codes "by") (rows_of f)) error.NoSchedule) (sym asked) by)
    by_error None e same h = absurd h
    by_error (Some t) e same h = absurd h

-- a getter that reads the text of a number gives the number
module _ (id : Text) (most : ℕ) (small : most < 18446744073709551616)
    (E : Type 0) (Gives : Text → Result ℕ E → Type 0) (parses : (t : Text) (x : Result ℕ E) → Gives t x → ParsesUnsigned 64 10 t x) where
  number_read : (text : Text) (n : Option ℕ) → IsUnsignedIn 0 most text → ReadsOne Gives text n → IsSomeAnd n (IsLimited most (Some text))
  number_read text None h g = absurd (parses text (Err g.0) g.1 (h.0, omega arith))
  number_read text (Some n) h g = (h, (parses text (Ok n) g).1)

  text_read : (text : Option Text) (n : Option ℕ) → IsSomeAnd text (IsUnsignedIn 0 most) → ((t : Text) → text ≡ Some t → ReadsOne Gives t n)
      → IsSomeAnd n (IsLimited most text)
  text_read None n h read = absurd h
  text_read (Some text) n h read = number_read text n h (read text refl)

  pub limited_read : (f : Found) (n : Option ℕ) → HasLimited id most (rows_of f) → ((t : Text) → one_text f id ≡ Some t → ReadsOne Gives t n)
      → IsSomeAnd n (NamesLimited id most (rows_of f))
  limited_read f n h read = with_default n (text_read (one_of id (rows_of f)) n h.0 (λ t e. read t (one_text-rows f id ∙ e)))
    where
      with_default : (n : Option ℕ) → IsSomeAnd n (IsLimited most (one_of id (rows_of f))) → IsSomeAnd n (NamesLimited id most (rows_of f))
      with_default None b = absurd b
      with_default (Some n) b = (b, λ e. (subst (λ o. IsLimited most o n) (h.1 e) b).1)

-- the same of a count
module _ (id : Text) (most bits : ℕ) (small : most < 2 ^ bits)
    (E : Type 0) (Gives : Text → Result ℕ E → Type 0) (parses : (t : Text) (x : Result ℕ E) → Gives t x → ParsesUnsigned bits 10 t x) where
  count_read : (text : Text) (n : Option ℕ) → IsUnsignedIn 1 most text → ReadsOne Gives text n → IsCount most (Some text) n
  count_read text None h g = absurd (parses text (Err g.0) g.1 (h.0, omega arith))
  count_read text (Some n) h g = (h, (parses text (Ok n) g).1)

  any_read : (text : Option Text) (n : Option ℕ) → IfSome text (IsUnsignedIn 1 most) → (text ≡ None → n ≡ None)
      → ((t : Text) → text ≡ Some t → ReadsOne Gives t n) → IsCount most text n
  any_read None n h none read = none refl
  any_read (Some text) n h none read = count_read text n h (read text refl)

  pub counted_read : (f : Found) (n : Option ℕ) → HasCount id most (rows_of f) → (one_text f id ≡ None → n ≡ None)
      → ((t : Text) → one_text f id ≡ Some t → ReadsOne Gives t n) → NamesCount id most (rows_of f) n
  counted_read f n h none read =
      any_read (one_of id (rows_of f)) n h (λ e. none (one_text-rows f id ∙ e)) (λ t e. read t (one_text-rows f id ∙ e))

-- a count that is named is in the range
pub counted_some : (id : Text) (most : ℕ) (rows : List Row) (n : Option ℕ) → NamesCount id most rows n → IfSome n (λ n. 0 < n)
counted_some id most rows n h = some (one_of id rows) n h
  where
    some : (text : Option Text) (n : Option ℕ) → IsCount most text n → IfSome n (λ n. 0 < n)
    some text None h = tt
    some None (Some n) h = cc
    some (Some text) (Some n) h = omega arith

pub counted_few : (id : Text) (most : ℕ) (rows : List Row) (n : Option ℕ) → NamesCount id most rows n → IfSome n (λ n. n ≤ most)
counted_few id most rows n h = few (one_of id rows) n h
  where
    few : (text : Option Text) (n : Option ℕ) → IsCount most text n → IfSome n (λ n. n ≤ most)
    few text None h = tt
    few None (Some n) h = cc
    few (Some text) (Some n) h = omega arith

named_limited : (most : ℕ) (text : Option Text) (n : ℕ) → IsLimited most text n → n ≤ most
named_limited most None n b = absurd b
named_limited most (Some text) n b = omega arith

-- a number that is named is in the range
pub limited : (id : Text) (most : ℕ) (rows : List Row) (n : Option ℕ) → IsSomeAnd n (NamesLimited id most rows) → IfSome n (λ n. n ≤ most)
limited id most rows None h = tt
limited id most rows (Some n) h = named_limited most (one_of id rows) n h.0

-- what the getter gives of the file is what is among the rows
pub no_file : (f : Found) → first_value f (codes "file") ≡ None → None ≡ file_in (rows_of f)
no_file f none = ap (option_and_then file_named) (sym none ∙ first_value-rows f (codes "file"))

file_in_rows : (f : Found) (word : Text) → Some word ≡ first_value f (codes "file") → file_named word ≡ file_in (rows_of f)
file_in_rows f word is = ap (option_and_then file_named) (is ∙ first_value-rows f (codes "file"))

pub dash_in_rows : (f : Found) (word : Text) → Some word ≡ first_value f (codes "file") → true ≡ bytes_eq word (codes "-") → None ≡ file_in (rows_of f)
dash_in_rows f word is dash = ap (λ b. cond b None (Some word)) dash ∙ file_in_rows f word is

pub name_in_rows : (f : Found) (word name : Text) → Some word ≡ first_value f (codes "file") → false ≡ bytes_eq word (codes "-") → name ≡ word
    → Some name ≡ file_in (rows_of f)
name_in_rows f word name is other same = ap (λ (t : Text). Some t) same ∙ ap (λ b. cond b None (Some word)) other ∙ file_in_rows f word is

-- an option was given where it has an entry that no default made
-- what a text among the rows is a name of
pub topic_in_rows : (f : Found) (t : Option Topic) (given : Option Text) → given ≡ first_value f (codes "code") → t ≡ option_and_then topic_of given
    → t ≡ option_and_then topic_of (first_of (codes "code") (rows_of f))
topic_in_rows f t given found is = is ∙ ap (λ (o : Option Text). option_and_then topic_of o) (found ∙ first_value-rows f (codes "code"))

pub given_in_rows : (f : Found) (id : Text) → is_present f id ≡ is_given id (rows_of f)
given_in_rows = present_row

-- ---- files of states
-- without a folder they can't be written
pub no_folder : (rows : List Row) → None ≡ first_of (codes "into") rows → names_parts rows ≡ false
no_folder rows none = ap (λ (o : Option Text). is_some o && is_some (one_of (codes "parts") rows)) (sym none)

never_both : (b : Bool) → (b && false) ≡ false
never_both true = refl
never_both false = refl

-- nor without a number of them
pub no_count : (rows : List Row) → NamesParts rows None → names_parts rows ≡ false
no_count rows named = by (one_of (codes "parts") rows) refl named
  where
    by : (o : Option Text) → one_of (codes "parts") rows ≡ o → IsCount MAX_PARTS o None → names_parts rows ≡ false
    by None same h =
        ap (λ (o : Option Text). is_some (first_of (codes "into") rows) && is_some o) same ∙ never_both (is_some (first_of (codes "into") rows))
    by (Some t) same h = absurd h
