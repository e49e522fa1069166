-- Entries gathered one after the other: one more, and what follows of all. Assumes nothing.
use mathlib.Core.Path.{◌≡◌, refl, sym, ◌∙◌, ap, ap₂, subst}
use mathlib.Core.Bool.{Bool, true, false, ◌||◌}
use mathlib.Core.Logic.{◌⊎◌, inl, inr}
use mathlib.Core.List.{List, [], ◌∷◌, ◌++◌, append-nil, append_assoc}
use Prim.Native.Nat.{ℕ, zero, suc, ◌+◌, ◌<◌, ◌≤◌}
use native.Mathlib.Numerals.{add-one}
use native.Mathlib.Omega.{arith}
use lib.ListN.{length}
use Rattle.words.specs.Lists.{each, up_to}
use Rattle.words.specs.Words.{Word}
use Rattle.words.specs.Order.{Side, lower, same, upper, side, put_by, put}
use Rattle.words.proofs.Lists.{each_in, each_append, up_to-in, below_or}
use Rattle.meaning.specs.Answers.{links_cap}
use Rattle.meaning.specs.Trails.{Link}
use Rattle.session_meaning.specs.Sessions.{RisesByLink, Entry, entry}
use Rattle.step_meaning.specs.Stepping.{entry_key, keep, clashes, conflict}
use Rattle.step_drafts.specs.Drafts.{drafts_of, Drafted, There, Placed, NoSlot as NoRoom, Became, PutIn}
use Rattle.step_growth.specs.Growing.{Gathered, Grown, SomeGrown, Gathers, Fitting}
use Rattle.step_drafts.specs.declared.keeping.Keeping.{Keeping}
use Rattle.step_drafts.specs.declared.keeping.Keeping.TheVariants.{Same, Other, New, Full}
use Rattle.std.specs.Prelude.{Option, Some, None}
use Rattle.step_meaning.proofs.Keep.{keep_append, conflict-append, keep-rises}

or-false : (b : Bool) → (b || false) ≡ b
or-false true = refl
or-false false = refl

or-true : (b : Bool) → (b || true) ≡ true
or-true true = refl
or-true false = refl

module _ {made work : List _} {c : Bool} (g : Gathered made work c) where
  pub gathered-rises : RisesByLink (drafts_of work)
  gathered-rises = rw g.are (keep-rises [] made tt)

  kept-one : (e : Entry) → keep [] (made ++ e ∷ []) ≡ put entry_key e (drafts_of work)
  kept-one e = keep_append [] made (e ∷ []) ∙ ap (put entry_key e) (sym g.are)

  odds-one : (e : Entry) → conflict [] (made ++ e ∷ []) ≡ (c || clashes e (drafts_of work))
  odds-one e =
      conflict-append [] made (e ∷ [])
      ∙ ap₂ (λ (a b : Bool). a || b) (sym g.odds)
      (or-false (clashes e (keep [] made)) ∙ ap (clashes e) (sym g.are))

  module _ {e : Entry} {r : Keeping} {work' : List ℕ} (p : PutIn work e r work') where
    told : (q : Keeping) → r ≡ q → Became q work e work'
    told q h = subst (λ (r : Keeping). Became r work e work') h p.became

    stayed : (d : Bool) → There d work e work' → Gathered (made ++ e ∷ []) work' (c || d)
    stayed d s =
        rw s.same
        (record {
          drafts = g.drafts;
          are = sym (kept-one e ∙ s.is);
          odds = sym (odds-one e ∙ ap (λ (b : Bool). c || b) s.clash);
        })

    pub gathered-same : r ≡ Same → Gathered (made ++ e ∷ []) work' c
    gathered-same h = rw (or-false c) at (stayed false (told Same h))

    pub gathered-other : r ≡ Other → Gathered (made ++ e ∷ []) work' true
    gathered-other h = rw (or-true c) at (stayed true (told Other h))

    pub gathered-new : r ≡ New → Gathered (made ++ e ∷ []) work' c
    gathered-new h =
        let s : Placed work e work' = told New h in
        record {
          drafts = s.drafts;
          are = s.is ∙ sym (kept-one e);
          odds = sym (odds-one e ∙ ap (λ (b : Bool). c || b) s.clash ∙ or-false c);
        }

    pub gathered-full : r ≡ Full → links_cap < length (keep [] (made ++ e ∷ []))
    gathered-full h =
        let s : NoRoom work e work' = told Full h in
        let m = ap length (kept-one e) in
        omega (arith, s.long)

-- the two answers of growing
pub grown-made : {made : List Entry} {work : List ℕ} {c : Bool} → Gathered made work c → Grown made (Some c) work
grown-made {c} g = record { made = λ d e. let same : c ≡ d = cc in rw (← same) g; full = λ e. absurd (cc) }

pub grown-full : {made : List Entry} {work : List ℕ} → links_cap < length (keep [] made) → Grown made None work
grown-full l = record { made = λ c e. absurd (cc); full = λ e. l }

-- where there was no slot left for some, there is none for more
put-adds : (e : Entry) (l : List Entry) → length l ≤ length (put entry_key e l)
put-adds e [] = omega arith
put-adds e (f ∷ l) = go (side (entry_key e) (entry_key f)) (put-adds e l)
  where
    go : (s : Side) → length l ≤ length (put entry_key e l)
        → length (f ∷ l) ≤ length (put_by entry_key s e f l (put entry_key e l))
    go lower h = omega arith
    go same h = omega arith
    go upper h = omega arith

keep-adds : (k more : List Entry) → length k ≤ length (keep k more)
keep-adds k [] = omega arith
keep-adds k (e ∷ more) = omega (arith, put-adds e k, keep-adds (put entry_key e k) more)

-- nothing is drafted, nothing more is, and some after others are
pub grown-none : {work : List ℕ} → Drafted work × (drafts_of work ≡ []) → Grown [] (Some false) work
grown-none d = grown-made (record { drafts = d.0; are = d.1; odds = refl })

module _ {work : List ℕ} {g : Option Bool} where
  pub gathers-none : Gathers [] work g g work
  gathers-none made h = rw (append-nil made) h

  module _ {E work' : List _} {g' : Option Bool} (a : Gathers E work g g' work') where
    pub gathers-as : {F : List Entry} → E ≡ F → Gathers F work g g' work'
    gathers-as e = rw (← e) a

    gathers-both : {F work'' : List _} {g'' : Option Bool} → Gathers F work' g' g'' work''
        → Gathers (E ++ F) work g g'' work''
    gathers-both {F} b made h = rw (← append_assoc made E F) (b (made ++ E) (a made h))

pub gathers-over : {E work work' : List _} {g : Option Bool} → Gathers E work g None work' → (F : List Entry)
    → Gathers (E ++ F) work g None work'
gathers-over {E} a F made h =
    let m = ap length (keep_append [] (made ++ E) F) in
    rw (← append_assoc made E F)
    (grown-full (omega (arith, (a made h).full refl, keep-adds (keep [] (made ++ E)) F)))

-- one more, whose link and piece are in other words what they were
pub added : {work work' : List ℕ} {g r : Option Bool} {k l : Link} {v w : Word} → Gathers (entry k v ∷ []) work g r work'
    → k ≡ l → v ≡ w → Gathers (entry l w ∷ []) work g r work'
added a e f = rw (← e, ← f) a

-- what a function makes of each number below `n` was made, one after the other
pub record Passing (f : ℕ → List Entry) (work : List ℕ) (g : Option Bool) (n : ℕ) (work' : List ℕ) (g' : Option Bool)
    : Type 0 where
  pub made : Gathers (each f (up_to n)) work g g' work'

module _ (f : ℕ → List Entry) where
  pub fitting-one : {n : ℕ} (k : ℕ) → k < n → Fitting (each f (up_to n)) → Fitting (f k)
  fitting-one {n} k l h = record { each = λ z m. h.each z (each_in f (up_to n) (up_to-in n k l) m) }

  each_more : (n : ℕ) → each f (up_to n) ++ f n ≡ each f (up_to (suc n))
  each_more n =
      sym
      (each_append f (up_to n) (n ∷ []) ∙ ap (λ (l : List Entry). each f (up_to n) ++ l) (append-nil (f n)))

  -- those of which nothing is made can be left out
  pub each_same : (n m : ℕ) → n ≤ m → ((k : ℕ) → n ≤ k → k < m → f k ≡ []) → each f (up_to n) ≡ each f (up_to m)
  each_same n zero l h = let e : n ≡ 0 = omega arith in rw e
  each_same n (suc m) l h = go (below_or n (suc m)) (each_same n m)
    where
      go : (n < suc m) ⊎ (suc m ≤ n)
          → (n ≤ m → ((k : ℕ) → n ≤ k → k < m → f k ≡ []) → each f (up_to n) ≡ each f (up_to m))
          → each f (up_to n) ≡ each f (up_to (suc m))
      go (inl b) ih =
          ih (omega arith) (λ k a b. h k a (omega arith))
          ∙ sym (append-nil (each f (up_to m)))
          ∙ ap (λ (l : List Entry). each f (up_to m) ++ l) (sym (h m (omega arith) (omega arith)))
          ∙ each_more m
      go (inr b) ih = let e : n ≡ suc m = omega arith in rw e

module _ {f : ℕ → List Entry} where
  module _ {work : List ℕ} {g : Option Bool} where
    pub passing-start : Passing f work g 0 work g
    passing-start = record { made = gathers-none }

    module _ {n : ℕ} {work' : List ℕ} {g' : Option Bool} (p : Passing f work g n work' g') where
      pub passing-ready : SomeGrown work g → SomeGrown work' g'
      passing-ready m = (m.0 ++ each f (up_to n), p.made m.0 m.1)

      pub passing-next : {work'' : List ℕ} {g'' : Option Bool} → Gathers (f n) work' g' g'' work''
          → Passing f work g (n + 1) work'' g''
      passing-next b = record { made = rw (add-one n) (gathers-as (gathers-both p.made b) (each_more f n)) }

      pub passing-skip : (m : ℕ) → n ≤ m → ((k : ℕ) → n ≤ k → k < m → f k ≡ [])
          → Passing f work g m work' g'
      passing-skip m l h = record { made = gathers-as p.made (each_same f n m l h) }

-- where those passed leave no slot, all do
pub passing-over : {f : ℕ → List Entry} {work work' : List ℕ} {g : Option Bool} {n : ℕ}
    → Passing f work g n work' None → (m : ℕ) → n ≤ m → Passing f work g m work' None
passing-over {n = n} p zero l = let e : n ≡ 0 = omega arith in rw e at p
passing-over {f = f} {work = work} {work' = work'} {g = g} {n = n} p (suc m) l =
    go (below_or n (suc m)) (passing-over p m)
  where
    go : (n < suc m) ⊎ (suc m ≤ n) → (n ≤ m → Passing f work g m work' None) → Passing f work g (suc m) work' None
    go (inl b) ih =
        record { made = gathers-as (gathers-over (ih (omega arith)).made (f m)) (each_more f m) }
    go (inr b) ih = let e : n ≡ suc m = omega arith in rw e at p

pub fitting-as : {E F : List Entry} → Fitting E → E ≡ F → Fitting F
fitting-as h e = rw (← e) h
