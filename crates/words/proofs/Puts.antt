-- What text put into a text leaves: nothing, and one text behind another. Assumes nothing.
use mathlib.Core.Path.{◌≡◌, sym, ◌∙◌, ap}
use mathlib.Core.List.{List, [], ◌++◌, append_assoc, append-nil}
use Prim.Native.Nat.{ℕ, ◌+◌, ◌≤◌}
use native.Mathlib.Nat.{add-zero}
use native.Mathlib.Omega.{arith}
use lib.ListN.{length, take, drop, length-append, length-drop, take-append-drop}
use lib.Seq.{length-take-le, take_at, drop-append-add, drop-drop}
use Rattle.words.specs.Words.{Word}
use Rattle.words.specs.Calls.{Room, Appended}

pub appended-none : (text : List ℕ) (at : ℕ) → at ≤ length text → Appended text at [] at text
appended-none text at le =
    record {
      next = sym (add-zero at);
      within = le;
      is = sym (rw append-nil (take-append-drop at text));
    }

-- where a text has room, what it begins with has
pub room-front : {text : List ℕ} {at : ℕ} (v w : Word) → Room text at (v ++ w) → Room text at v
room-front v w room = record { fits = omega (arith, length-append v w, room.fits) }

module _ {text : List ℕ} {at : ℕ} {v : Word} {r : ℕ} {text' : List ℕ} (a : Appended text at v r text') where
  front : length (take at text ++ v) ≡ r
  front =
      length-append (take at text) v
      ∙ omega (arith, length-take-le at text (omega (arith, a.next, a.within)), a.next)

  -- a text stays as long as it was
  pub appended-whole : length text' ≡ length text
  appended-whole =
      ap length a.is
      ∙ length-append (take at text ++ v) (drop r text)
      ∙ omega (arith, front, length-drop r text, a.within)

  -- what is left of the room
  pub room-behind : (w : Word) → Room text at (v ++ w) → Room text' r w
  room-behind w room = record { fits = omega (arith, length-append v w, a.next, appended-whole, room.fits) }

  -- and `w` behind it
  pub appended-next : {w : Word} {s : ℕ} {text'' : List ℕ} → Appended text' r w s text''
      → Appended text at (v ++ w) s text''
  appended-next {w} {s} {text''} b =
      record {
        next = rw length-append (omega (arith, a.next, b.next));
        within = omega (arith, b.within, appended-whole);
        is = b.is ∙ rw (before, after) (simp append_assoc);
      }
    where
      before : take r text' ≡ take at text ++ v
      before = rw a.is (take_at (take at text ++ v) (drop r text) r front)

      after : drop s text' ≡ drop s text
      after =
          let e : s ≡ length (take at text ++ v) + length w = omega (arith, front, b.next) in
          let f : r + length w ≡ s = omega (arith, b.next) in
          rw a.is
          (ap (λ (k : ℕ). drop k (take at text ++ v ++ drop r text)) e
          ∙ drop-append-add (take at text ++ v) (drop r text) (length w)
          ∙ drop-drop (length w) r text
          ∙ ap (λ (k : ℕ). drop k text) f)

-- two answers that meet the contract are the same, and so are the texts
pub appended-unique : {text : List ℕ} {at : ℕ} {w : Word} {r q : ℕ} {t u : List ℕ} → Appended text at w r t
    → Appended text at w q u → (r ≡ q) × (t ≡ u)
appended-unique {text} {at} {w} a b =
    let e = a.next ∙ sym b.next in
    (e, a.is ∙ ap (λ (k : ℕ). take at text ++ w ++ drop k text) e ∙ sym b.is)
