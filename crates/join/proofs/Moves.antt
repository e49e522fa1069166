-- One row in a reading: whether it fits, and the configuration that follows. Assumes nothing.
use mathlib.Core.Path.{◌≡◌, refl, sym, ◌∙◌, ap}
use mathlib.Core.Bool.{Bool, true, false, cond}
use mathlib.Core.List.{List, [], ◌∷◌, ◌++◌, map, reverse, reverse-append}
use Prim.Native.Nat.{ℕ, zero, suc, ◌+◌, ◌-◌, ◌<◌, ◌≤◌}
use native.Mathlib.Numerals.{add-one}
use native.Mathlib.Omega.{arith}
use borrow.Author.Tests.{eqb-true, eq-eqb, ne_eqb}
use lib.Dec.{eqb}
use lib.ListN.{length, get_or, take, drop, set, length-append}
use lib.Seq.{take-suc, take-suc-set, take-set-le, take-set-lt, take-take, take-append-le, take-append_seam, length-take-le}
use lib.Seq.{slice, drop-append-le, drop-set-lt, set-set, set-get_or, get_or-take}
use Rattle.words.specs.Lists.{only}
use Rattle.words.specs.Words.{Word}
use Rattle.words.specs.Calls.{Appended as Put}
use Rattle.meaning.specs.Table.{Class, unused, call, return, internal, code, Row}
use Rattle.meaning.specs.Runs.{Config, config, shifted}
use Rattle.meaning.specs.Joining.{after_row}
use Rattle.join.specs.Reading.{stack_room, config_of, Fits, height_after, Exchanged, Appended, Untouched}
use Rattle.join.specs.declared.reading.Cursor.{Cursor}

-- the stack's top is the last of its markers
top_of : (stack : List ℕ) (h : ℕ) → h < length stack
    → reverse (take (suc h) stack) ≡ get_or stack h 0 ∷ reverse (take h stack)
top_of stack h l = ap reverse (take-suc stack h 0 l) ∙ reverse-append (take h stack) (get_or stack h 0 ∷ [])

-- what was put at the height is the top of a stack one higher, and is no part of a lower one
module _ (stack : List ℕ) (h m : ℕ) where
  pushed-top : h < length stack → reverse (take (h + 1) (set stack h m)) ≡ m ∷ reverse (take h stack)
  pushed-top l =
      rw (add-one h)
      (ap reverse (take-suc-set stack h m l) ∙ reverse-append (take h stack) (m ∷ []))

  pushed-under : (k : ℕ) → k ≤ h → reverse (take k (set stack h m)) ≡ reverse (take k stack)
  pushed-under k l = ap reverse (take-set-le k stack h m l)

-- a row needs of the stack what its class does
abbrev Tops : Class → ℕ → ℕ → List ℕ → Type 0
Tops k m height tape = (k ≡ unused → ⊥) × (k ≡ return → (0 < height) × (get_or tape (height - 1) 0 ≡ m))

-- the stacks that follow
module _ (m : ℕ) (tape : List ℕ) where
  shifted_fits : (k : Class) (height : ℕ) → height < length tape → Tops k m height tape
      → shifted k m (reverse (take height tape))
      ≡ reverse (take (height_after k height) (set tape height m)) ∷ []
  shifted_fits unused height l f = absurd (f.0 refl)
  shifted_fits call height l f = ap (λ (s : List ℕ). s ∷ []) (sym (pushed-top tape height m l))
  shifted_fits return zero l f = absurd (omega (arith, (f.1 refl).0))
  shifted_fits return (suc h) l f =
      let e : suc h - 1 ≡ h = omega arith in
      let t : get_or tape h 0 ≡ m = ap (λ (i : ℕ). get_or tape i 0) (sym e) ∙ (f.1 refl).1 in
      ap (shifted return m) (top_of tape h (omega arith))
      ∙ ap (λ (b : Bool). only b (reverse (take h tape))) (eq-eqb (get_or tape h 0) m t)
      ∙ ap (λ (s : List ℕ). s ∷ [])
      (sym (pushed-under tape (suc h) m h (omega arith))
      ∙ ap (λ (i : ℕ). reverse (take i (set tape (suc h) m))) (sym e))
  shifted_fits internal height l f =
      ap (λ (s : List ℕ). s ∷ []) (sym (pushed-under tape height m height (omega arith)))

  shifted-not : (k : Class) (height : ℕ) → height ≤ length tape → (Tops k m height tape → ⊥)
      → shifted k m (reverse (take height tape)) ≡ []
  shifted-not unused height l f = refl
  shifted-not call height l f =
      absurd (f (λ e. let z = ap code e in omega arith, λ e. absurd (let z = ap code e in omega arith)))
  shifted-not return zero l f = refl
  shifted-not return (suc h) l f =
      let z : suc h - 1 ≡ h = omega arith in
      let apart : get_or tape h 0 ≡ m → ⊥ =
      λ t. f (λ e. let z = ap code e in omega arith, λ e. (omega arith, ap (λ (i : ℕ). get_or tape i 0) z ∙ t)) in
      ap (shifted return m) (top_of tape h (omega arith))
      ∙ ap (λ (b : Bool). only b (reverse (take h tape))) (ne_eqb (get_or tape h 0) m apart)
  shifted-not internal height l f =
      absurd (f (λ e. let z = ap code e in omega arith, λ e. absurd (let z = ap code e in omega arith)))

-- nothing follows where the row doesn't fit
pub taken_none : {k : Class} {x : Row} {c : Cursor} {tape : List ℕ} → c.height ≤ length tape
    → (Fits k x c tape → ⊥) → after_row k x (config_of c tape) ≡ []
taken_none {k} {x} {c} {tape} l f = go (eqb c.state x.from) refl
  where
    by : List ℕ → Config
    by s = config x.to s (slice stack_room c.end tape ++ x.word)

    go : (b : Bool) → eqb c.state x.from ≡ b
        → cond b (map by (shifted k x.marker (reverse (take c.height tape)))) [] ≡ []
    go true e =
        ap (map by)
        (shifted-not x.marker tape k c.height l
        (λ t. f (record { known = t.0; from = eqb-true c.state x.from e; top = t.1 })))
    go false e = refl

-- what was written behind an end changes nothing before it
taken-same : {tape tape' : List ℕ} {end : ℕ} → Untouched tape end tape' → (n : ℕ) → n ≤ end → take n tape' ≡ take n tape
taken-same {tape} {tape'} {end} u n l = sym (take-take n end tape' l) ∙ ap (take n) u.kept ∙ take-take n end tape l

pub untouched-self : {tape : List ℕ} {end : ℕ} → Untouched tape end tape
untouched-self = record { kept = refl }

pub untouched-both : {tape t t' : List ℕ} {end : ℕ} → Untouched tape end t → Untouched t end t' → Untouched tape end t'
untouched-both a b = record { kept = b.kept ∙ a.kept }

module _ {tape tape' w : List ℕ} {end longer : ℕ} (p : Appended tape end w longer tape') where
  before-it : length (take end tape) ≡ end
  before-it = length-take-le end tape p.within

  appended-before : Untouched tape end tape'
  appended-before =
      record {
        kept =
            sym (take-take end longer tape' (omega (arith, p.more)))
            ∙ ap (take end) p.is
            ∙ take-append-le end (take end tape) w (omega (arith, before-it))
            ∙ take-take end end tape (omega arith);
      }

  appended-out : stack_room ≤ end → slice stack_room longer tape' ≡ slice stack_room end tape ++ w
  appended-out l = ap (drop stack_room) p.is ∙ drop-append-le stack_room (take end tape) w (omega (arith, before-it))

pub height-near : (k : Class) (height : ℕ) → height_after k height ≤ height + 1
height-near unused height = omega arith
height-near call height = omega arith
height-near return height = omega arith
height-near internal height = omega arith

-- one configuration follows where it fits, with what the code made of each part
pub moved : {k : Class} {x : Row} {c d : Cursor} {m old : ℕ} {tape tape' tape'' : List ℕ}
    → Fits k x c tape → Exchanged tape c.height m old tape' → m ≡ x.marker → d.state ≡ x.to
    → d.height ≡ height_after k c.height → Appended tape' c.end x.word d.end tape''
    → c.height < stack_room → stack_room ≤ c.end
    → after_row k x (config_of c tape) ≡ config_of d tape'' ∷ []
moved {k} {x} {c} {d} {tape = tape} {tape'} {tape''} f a m to higher p low behind =
    rw (
      eq-eqb c.state x.from f.from,
      shifted_fits x.marker tape k c.height a.within (f.known, f.top),
    )
    (λ i. config (sym to i) (stack i) (out i) ∷ [])
  where
    put : tape' ≡ set tape c.height x.marker
    put = a.is ∙ ap (set tape c.height) m

    stack : reverse (take (height_after k c.height) (set tape c.height x.marker))
        ≡ reverse (take d.height tape'')
    stack =
        sym
        (ap reverse (taken-same (appended-before p) d.height (omega (arith, height-near k c.height)))
        ∙ (λ i. reverse (take (higher i) (put i))))

    out : slice stack_room c.end tape ++ x.word ≡ slice stack_room d.end tape''
    out =
        sym
        (appended-out p behind
        ∙ ap (λ (l : List ℕ). slice stack_room c.end l ++ x.word) put
        ∙ ap (λ (l : List ℕ). drop stack_room l ++ x.word)
        (take-set-lt c.end tape c.height x.marker (omega arith))
        ∙ ap (λ (l : List ℕ). l ++ x.word) (drop-set-lt stack_room (take c.end tape) c.height x.marker low))

-- a word written behind what was written so far
pub appended : {tape tape' w v : Word} {end longer : ℕ} → v ≡ w → Put tape end v longer tape' → length w ≤ 255
    → Appended tape end w longer tape'
appended {tape} {v = v} {end = end} {longer} e p short =
    record {
      within = let n = p.next in let l = p.within in omega arith;
      more = p.next ∙ ap (λ (u : Word). end + length u) e;
      short = short;
      is = ap (take longer) p.is ∙ rest ∙ ap (λ (u : Word). take end tape ++ u) e;
    }
  where
    rest : take longer (take end tape ++ v ++ drop longer tape) ≡ take end tape ++ v
    rest =
        let before = length-take-le end tape (let n = p.next in let l = p.within in omega arith) in
        let front : length (take end tape ++ v) ≡ longer =
        let n = p.next in omega (arith, length-append (take end tape) v) in
        ap (λ (n : ℕ). take n (take end tape ++ v ++ drop longer tape)) (sym front)
        ∙ take-append_seam (take end tape ++ v) (drop longer tape)

-- the configuration rests on the tape up to the end
pub same-config : {tape tape' : List ℕ} (c : Cursor) → c.height ≤ c.end → Untouched tape c.end tape'
    → config_of c tape' ≡ config_of c tape
same-config c l u = λ i. config c.state (reverse (taken-same u c.height l i)) (drop stack_room (u.kept i))

-- nothing is touched by one more byte on the stack and one more word, once the byte is put back
pub put_back : {tape t t' t'' s w : List ℕ} {height m old old' end longer : ℕ}
    → Exchanged tape height m old t → Appended t end w longer t' → Untouched t' longer t''
    → Exchanged t'' height old old' s → height < end → Untouched tape end s
put_back {tape} {t} {t'' = t''} {height = h} {m} {old} {end = end} {longer} a p u b l =
    record {
      kept =
          rw (b.is, a.was)
          (take-set-lt end t'' h (get_or tape h 0) l
          ∙ ap (λ (k : List ℕ). set k h (get_or tape h 0)) before
          ∙ set-set (take end tape) h m (get_or tape h 0)
          ∙ ap (set (take end tape) h) (sym (get_or-take end tape h 0 l))
          ∙ set-get_or (take end tape) h 0);
    }
  where
    before : take end t'' ≡ set (take end tape) h m
    before =
        taken-same u end (omega (arith, p.more)) ∙ (appended-before p).kept ∙ ap (take end) a.is
        ∙ take-set-lt end tape h m l
