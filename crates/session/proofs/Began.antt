-- What `begin` made: of a good file the sound session that stands for the runs over the empty message, and nothing else
-- meets its contract. Assumes nothing.
use mathlib.Core.Path.{◌≡◌, refl, sym, ◌∙◌, ap, subst}
use mathlib.Core.Logic.{◌↔◌}
use mathlib.Core.Bool.{Bool, true, false}
use mathlib.Core.Option.{none}
use mathlib.Core.List.Memᴰ
use mathlib.Core.List.{List, [], map}
use Prim.Native.Nat.{ℕ, ◌<◌, ◌≤◌}
use native.Mathlib.Omega.{arith}
use lib.Dec.{eqb}
use lib.ListN.{length, length-map}
use borrow.Author.Tests.{eqb-true, eqb-false}
use Rattle.words.specs.Lists.{◌among◌}
use Rattle.words.specs.Words.{Word, Bytes}
use Rattle.words.proofs.Lists.{bytes-nil, bytes-cons}
use Rattle.std.specs.Prelude.{Result, Ok}
use Rattle.numbers.specs.declared.Refusal.{Refusal}
use Rattle.numbers.proofs.Told.{answer-same}
use Rattle.meaning.specs.Table.{Table}
use Rattle.meaning.specs.Trails.{Trail}
use Rattle.meaning.specs.Living.{place, living}
use Rattle.meaning.specs.Answers.{links_cap, Moment, opened}
use Rattle.meaning.proofs.Living.{Reaches, living-exact, begun-count as living-count}
use Rattle.table.specs.File.{table_of}
use Rattle.table.specs.Good.{first_edition, GoodFile}
use Rattle.table.proofs.Told.{judged-good, judged-faulty, judged-unique}
use Rattle.table.proofs.Stands.{starting-of}
use Rattle.session_meaning.specs.Sessions.{Entry, Sound, trails, stands, starts, started, beginning}
use Rattle.session_meaning.specs.Bytes.{piece_room, session_of, link_bytes, bytes_of, SoundBytes}
use Rattle.session.specs.Calls.{BeginsSession, Begun}
use Rattle.session_meaning.proofs.Beginning.{beginning-sound, beginning-stands}
use Rattle.session_meaning.proofs.Encoded.{Fits, small-zeros, session-back, kept_of}
use Rattle.session_meaning.proofs.RoundTrip.{bytes_one}

-- links at level 0 fit, where their states are bytes
started-fits : (l : List ℕ) → length l ≤ links_cap → ((q : ℕ) → q among l → q < 256) → Fits (started l)
started-fits l room small =
    record {
      depth = omega arith;
      count = rw (length-map l starts) room;
      bytes =
          all (λ e. Bytes (link_bytes e.link))
          (λ q m. bytes-cons (omega arith) (bytes-cons (small q m) (small-zeros 3)));
      below = all (λ e. (e.link.level ≡ 0) ↔ (e.link.below ≡ none)) (λ q m. (λ z. refl, λ z. refl));
      short = all (λ e. length e.piece ≤ piece_room) (λ q m. omega arith);
      piece = all (λ e. Bytes e.piece) (λ q m. bytes-nil);
    }
  where
    all : (P : Entry → Type 0) → ((q : ℕ) → q among l → P (starts q)) → (e : Entry) → e among map starts l → P e
    all P h e m = let x = Memᴰ.of_map starts l m in subst P x.2 (h x.0 x.1)

-- of a good file
module _ (file : List ℕ) (good : GoodFile first_edition file) where
  abbrev T : Table
  T = table_of file

  -- the session of its table, and that session's bytes, which are sound for it and stand for the runs
  sound-beginning : Sound T (beginning T)
  sound-beginning = let s = starting-of file good in beginning-sound T s.0 s.1 s.2

  few : length T.starting ≤ links_cap
  few = rw length-map at sound-beginning.count.1

  beginning-fits : Fits (beginning T)
  beginning-fits =
      let s = starting-of file good in
      started-fits T.starting few (λ q m. omega (arith, s.0.below q m, s.2))

  decoded-beginning : session_of (bytes_of (beginning T)) ≡ beginning T
  decoded-beginning = session-back (beginning T) beginning-fits

  beginning-bytes : SoundBytes T (bytes_of (beginning T))
  beginning-bytes =
      record { kept = kept_of (beginning T) beginning-fits; sound = rw decoded-beginning sound-beginning }

  beginning-is : stands (session_of (bytes_of (beginning T))) ≡ opened T
  beginning-is = ap stands decoded-beginning ∙ beginning-stands T

  pub begun-taken : {n : ℕ} {l session session' : List ℕ} → l ≡ T.starting → session' ≡ bytes_of (started l)
      → n ≡ length l → Begun file session (Ok n) session'
  begun-taken {session' = session'} e f m =
      let is : session' ≡ bytes_of (beginning T) = f ∙ ap (λ (l : List ℕ). bytes_of (started l)) e in
      record {
        judged = judged-good good;
        counted = λ z. m ∙ ap length e;
        none = λ z. absurd (omega arith);
        sound = λ z. rw is beginning-bytes;
        stands = λ z. ap (λ (B : List ℕ). stands (session_of B)) is ∙ beginning-is;
        kept = λ z. absurd (omega arith);
      }

-- two numbers, counts and sessions that meet the promise on one file and session are the same; so are two answers
pub begins-unique : {file session : List ℕ} {m n s t : ℕ} {x y : List ℕ} → BeginsSession file session m s x
    → BeginsSession file session n t y → (m ≡ n) × (s ≡ t) × (x ≡ y)
begins-unique {file} {session} {m} {n} {s} {t} {x} {y} a b = go (eqb m 0) refl
  where
    same : m ≡ n
    same = judged-unique a.judged b.judged

    go : (k : Bool) → eqb m 0 ≡ k → (m ≡ n) × (s ≡ t) × (x ≡ y)
    go true e =
        let z = eqb-true m 0 e in
        let z' = sym same ∙ z in
        let is = ap (λ (w : Moment). w.waiting) (a.stands z ∙ sym (b.stands z')) in (
          same,
          a.counted z ∙ sym (b.counted z'),
          bytes_one (table_of file) x y (a.sound z) (b.sound z') (λ p. rw is (λ m. m, λ m. m)),
        )
    go false e =
        let one = a.judged.bad.1 (judged-faulty a.judged (eqb-false m 0 e)) in
        let one' = sym same ∙ one in
        (same, a.none one ∙ sym (b.none one'), a.kept one ∙ sym (b.kept one'))

pub begun-unique : (file session : List ℕ) (r q : Result ℕ Refusal) (session' session'' : List ℕ)
    → Begun file session r session' → Begun file session q session'' → (r ≡ q) × (session' ≡ session'')
begun-unique file session r q session' session'' a b =
    let u = begins-unique a b in
    (answer-same r q u.0 u.1, u.2)

-- begin reports at most 64 starting states
pub begun-few : {file session session' : List ℕ} {number states : ℕ} → BeginsSession file session number states session'
    → states ≤ links_cap
begun-few {file} {number = number} {states} b = go (eqb number 0) refl
  where
    go : (t : Bool) → eqb number 0 ≡ t → states ≤ links_cap
    go true e = let z = eqb-true number 0 e in omega (arith, b.counted z, few file (b.judged.good.0 z))
    go false e = omega (arith, b.none (b.judged.bad.1 (judged-faulty b.judged (eqb-false number 0 e))))

-- in words of runs: what waits in the session are the runs over the empty message, each trail with the output it has
pub begun-runs : {file session session' : List ℕ} {number states : ℕ} → BeginsSession file session number states session'
    → number ≡ 0 → (t : Trail) (o : Word)
    → (place t o among trails (session_of session')) ↔ Reaches (table_of file) [] t o
begun-runs {file} {session' = session'} b z t o =
    let is : trails (session_of session') ≡ living (table_of file) [] = ap (λ (m : Moment). m.waiting) (b.stands z) in
    rw is (living-exact (table_of file) [] t o)

-- and there are as many as begin reports
pub begun-count : {file session session' : List ℕ} {number states : ℕ} → BeginsSession file session number states session'
    → number ≡ 0 → states ≡ length (trails (session_of session'))
begun-count {file} b z =
    b.counted z ∙ living-count (table_of file) ∙ sym (ap (λ (m : Moment). length m.waiting) (b.stands z))
