-- Finish gives the number of the first sentence that holds, and accepts what alone is allowed: demand 2.
-- Assumes nothing.
use mathlib.Core.Path.{◌≡◌, refl, sym, ◌∙◌, ap, subst}
use mathlib.Core.Bool.{Bool, true, false, cond, not, true≢false, false≢true}
use mathlib.Core.Logic.{◌↔◌}
use mathlib.Core.List.Memᴰ
use mathlib.Core.List.{List, [], ◌∷◌, ◌++◌, append_cancel_left, cons≢nil}
use Prim.Native.Nat.{ℕ, ◌<◌, ◌≤◌}
use native.Mathlib.Omega.{arith}
use lib.Dec.{eqb, ltb}
use lib.ListN.{length}
use borrow.Author.Tests.{eqb-true, eq-eqb, ltb-false, not-false}
use Rattle.words.specs.Lists.{◌among◌, each, only, any_of, is_empty, Exact}
use Rattle.words.specs.Words.{Word, common}
use Rattle.words.specs.Order.{same_word}
use Rattle.words.proofs.Lists.{each_in, each-out, only-in, only_out, any-in, any_out, first_of}
use Rattle.words.proofs.Common.{common-all}
use Rattle.words.proofs.Ordered.{same_in, same_out}
use Rattle.meaning.specs.Table.{Table}
use Rattle.meaning.specs.Runs.{Config, Run, Accepting, Allowed, depth}
use Rattle.meaning.specs.Trails.{Trail, ground, over, trail}
use Rattle.meaning.specs.Living.{Place}
use Rattle.meaning.specs.Answers.{Moment, accepts, accepted, finish_tests, finish_number, finish}
use Rattle.meaning.specs.Sentences.{First, Agreed, Ambiguous, finish_sentences, Only}
use Rattle.meaning.proofs.Trails.{At, run_at}
use Rattle.words.proofs.Exact.{exact-as, eqb-exact, ltb-exact, same-exact, not-exact, any-exact, empty-exact}
use Rattle.meaning.proofs.Tests.{Match, first-exact, fails}
use Rattle.meaning.proofs.Depth.{run-depth}
use Rattle.meaning.proofs.Stands.{stands, runs_of, agreed-one}
use Rattle.meaning.proofs.Holds.{Holds, holds-depth}

-- a configuration at the top of a trail accepts exactly when the trail does
accepts-exact : (T : Table) (c : Config) (t : Trail) → At c t → Exact (Accepting T c) (accepts T t)
accepts-exact T c (ground q) h = (
  λ a. any-in (eqb q) T.final a.final (eq-eqb q c.state (sym h.state)),
  λ e.
      let x = any_out (eqb q) T.final e in
      record { final = Memᴰ.cast (h.state ∙ eqb-true q x.0 x.2) x.1; empty = h.stack },
)
accepts-exact T c (over q m t) h = (λ a. absurd (cons≢nil (sym h.stack ∙ a.empty)), λ e. absurd (false≢true e))

-- two words of a list differ
module _ (A : List Word) where
  abbrev pub Differ : Type 0
  Differ = (v : Word) × (v among A) × ((w : Word) × (w among A) × (v ≡ w → ⊥))

  pub differ-exact : Exact Differ (any_of (λ v. any_of (λ w. not (same_word v w)) A) A)
  differ-exact = any-exact A (λ v i. any-exact A (λ w j. not-exact (same-exact v w)))

  -- where two do not differ, the common beginning is the word itself
  pub agreeing : any_of (λ v. any_of (λ w. not (same_word v w)) A) A ≡ false → (w : Word) → w among A → common A ≡ w
  agreeing e w i = common-all A i (λ v j. same_out v w (go v j (same_word v w) refl))
    where
      go : (v : Word) → v among A → (b : Bool) → same_word v w ≡ b → b ≡ true
      go v j true f = refl
      go v j false f =
          absurd (true≢false (sym (differ-exact.0 (v, j, (w, i, λ d. true≢false (sym (same_in d) ∙ f)))) ∙ e))

module _ {T : Table} {u z : Word} {m : Moment} (h : Holds T u z m) where
  abbrev A : List Word
  A = accepted T m.waiting

  -- what is accepted is what is allowed, less what was sent
  accepted-allowed : (w : Word) → w among A → Allowed T u (z ++ w)
  accepted-allowed w i =
      let x = Memᴰ.of_map (λ p. p.output) (each (λ p. only (accepts T p.trail) p) m.waiting) i in
      let y = each-out (λ p. only (accepts T p.trail) p) m.waiting x.1 in
      let o = only_out (accepts T y.0.trail) y.2 in
      let r = runs_of T u z m.waiting h.runs y.0 y.1 in
      record {
        run = r.run;
        accepts =
            (accepts-exact T r.run.end (trail r.run) (run_at r.run)).1
            (subst (λ (s : Trail). accepts T s ≡ true) (sym r.trail) o.0);
        gives = r.output ∙ ap (λ (p : Place). z ++ p.output) (sym o.1) ∙ ap (λ (v : Word). z ++ v) x.2;
      }

  run-accepted : (r : Run T u) → Accepting T r.end → (w : Word) × (w among A) × (r.end.output ≡ z ++ w)
  run-accepted r a =
      let s = stands T u z m.waiting h.runs r in
      let f = (accepts-exact T r.end (trail r) (run_at r)).0 a in
      let e = subst (λ (s : Trail). accepts T s ≡ true) s.trail f in (
        s.place.output,
        Memᴰ.map (λ p. p.output) (each_in (λ p. only (accepts T p.trail) p) m.waiting s.listed (only-in e)),
        s.output,
      )

  allowed-accepted : (w : Word) → Allowed T u (z ++ w) → w among A
  allowed-accepted w a =
      let x = run-accepted a.run a.accepts in
      Memᴰ.cast (append_cancel_left z w x.0 (sym a.gives ∙ x.2)) x.1

  -- the sentences
  closed-exact : Exact (0 < depth T u) (not (eqb m.depth 0))
  closed-exact =
      let d = holds-depth h in
      exact-as (λ (f : m.depth ≡ 0 → ⊥). omega arith, λ l e. omega arith) (not-exact (eqb-exact m.depth 0))

  flat : not (eqb m.depth 0) ≡ false → depth T u ≡ 0
  flat e = sym (holds-depth h) ∙ eqb-true m.depth 0 (not-false (eqb m.depth 0) e)

  final-exact : depth T u ≡ 0 → Exact ((r : Run T u) → r.end.state among T.final → ⊥) (is_empty A)
  final-exact d = exact-as (to, λ f w i. let a = accepted-allowed w i in f a.run a.accepts.final) (empty-exact A)
    where
      no_stack : (s : List ℕ) → length s ≡ 0 → s ≡ []
      no_stack [] e = refl
      no_stack (n ∷ s) e = absurd (omega arith)

      to : ((w : Word) → w among A → ⊥) → (r : Run T u) → r.end.state among T.final → ⊥
      to none r f =
          let x = run-accepted r (record { final = f; empty = no_stack r.end.stack (run-depth r ∙ d) }) in
          none x.0 x.1

  ambiguous-exact : Exact (Ambiguous T u) (any_of (λ v. any_of (λ w. not (same_word v w)) A) A)
  ambiguous-exact = exact-as (to, fro) (differ-exact A)
    where
      to : Differ A → Ambiguous T u
      to x =
          let y = x.2 in
          let a = accepted-allowed x.0 x.1 in
          let b = accepted-allowed y.0 y.1 in (
            a.run,
            b.run,
            a.accepts,
            b.accepts,
            λ d. y.2 (append_cancel_left z x.0 y.0 (sym a.gives ∙ d ∙ b.gives)),
          )

      fro : Ambiguous T u → Differ A
      fro c =
          let x = run-accepted c.0 c.2 in
          let y = run-accepted c.1 c.3 in
          (x.0, x.1, (y.0, y.1, λ e. c.4 (x.2 ∙ ap (λ (w : Word). z ++ w) e ∙ sym y.2)))

  module _ (room : ℕ) where
    abbrev NoRoom : Type 0
    NoRoom = (y : Word) × (w : Word) × Agreed T u y × Allowed T u (y ++ w) × (room < length w)

    room-exact : {v : Word} → v among A → ((w : Word) → w among A → common A ≡ w)
        → Exact NoRoom (ltb room (length (common A)))
    room-exact {v} i one = exact-as (to, fro) (ltb-exact room (length (common A)))
      where
        to : room < length (common A) → NoRoom
        to l = (z, v, h.agreed, accepted-allowed v i, subst (λ (w : Word). room < length w) (one v i) l)

        fro : NoRoom → room < length (common A)
        fro n =
            let d : n.0 ≡ z = agreed-one n.2 h.agreed in
            let w = allowed-accepted n.1 (subst (λ (y : Word). Allowed T u (y ++ n.1)) d n.3) in
            subst (λ (w : Word). room < length w) (sym (one n.1 w)) n.4

    finish-match : Match (finish_tests T room m) (finish_sentences T room u)
    finish-match = (
      refl,
      closed-exact,
      λ closed. (
        refl,
        final-exact (flat closed),
        λ some. (refl, ambiguous-exact, λ one. (refl, room-exact (first_of A some).1 (agreeing A one), λ fits. tt)),
      ),
    )

    -- each number is given exactly when its sentence is the first that holds
    pub finish-exact : (n : ℕ) → (finish_number T room m ≡ n) ↔ First (finish_sentences T room u) n
    finish-exact n = first-exact (finish_tests T room m) (finish_sentences T room u) refl finish-match n

    -- what an accepted finish wrote is the one thing allowed
    taken-only : (w : Word) → finish_number T room m ≡ 0 → common A ≡ w → Only T u (z ++ w) × (length w ≤ room)
    taken-only w e f =
        let p = fails (finish_tests T room m) refl e in
        let v = first_of A p.1.0 in
        let h : (x : Word) → x among A → x ≡ w = λ x i. sym (agreeing A p.1.1.0 x i) ∙ f in (
          record {
            allowed = accepted-allowed w (Memᴰ.cast (sym (h v.0 v.1)) v.1);
            alone = λ x a.
                let y = run-accepted a.run a.accepts in
                sym a.gives ∙ y.2 ∙ ap (λ (y : Word). z ++ y) (h y.0 y.1);
          },
          subst (λ (x : Word). length x ≤ room) f (ltb-false room (length (common A)) p.1.1.1.0),
        )

    -- and where one thing alone is allowed, and there is room, finish is taken
    only-first : (w : Word) → Only T u (z ++ w) → length w ≤ room → First (finish_sentences T room u) 0
    only-first w o l = (
      λ c. let s = ap length o.allowed.accepts.empty in let d = run-depth o.allowed.run in omega arith,
      (
        λ f. f o.allowed.run o.allowed.accepts.final,
        (λ a. a.4 (gives a.0 a.2 ∙ sym (gives a.1 a.3)), (no_room, refl)),
      ),
    )
      where
        gives : (r : Run T u) → Accepting T r.end → r.end.output ≡ z ++ w
        gives r a = o.alone r.end.output (record { run = r; accepts = a; gives = refl })

        no_room : NoRoom → ⊥
        no_room n =
            let d : n.0 ≡ z = agreed-one n.2 h.agreed in
            let e : z ++ n.1 ≡ z ++ w = ap (λ (y : Word). y ++ n.1) (sym d) ∙ o.alone (n.0 ++ n.1) n.3 in
            let f : length n.1 ≡ length w = ap length (append_cancel_left z n.1 w e) in
            let g = n.4 in
            omega arith

    -- demand 2: finish accepts with an output exactly when accepting runs exist and all give it, if it has room
    abbrev pub Gives : Word → Type 0
    Gives w = ◌≡◌ {A = ℕ × Word} (finish T room m) (0, w)

    pub finish-only : (w : Word) → Gives w ↔ (Only T u (z ++ w) × (length w ≤ room))
    finish-only w = (to, fro)
      where
        n : ℕ
        n = finish_number T room m

        zero_of : (b : Bool) → ◌≡◌ {A = ℕ × Word} (cond b (n, common A) (n, [])) (0, w) → n ≡ 0
        zero_of true e = ap (λ (x : ℕ × Word). x.0) e
        zero_of false e = ap (λ (x : ℕ × Word). x.0) e

        taken : n ≡ 0 → Gives (common A)
        taken e = rw e

        to : Gives w → Only T u (z ++ w) × (length w ≤ room)
        to e =
            let f = zero_of (eqb n 0) e in
            taken-only w f (ap (λ (x : ℕ × Word). x.1) (sym (taken f) ∙ e))

        fro : Only T u (z ++ w) × (length w ≤ room) → Gives w
        fro o =
            let e = (finish-exact 0).1 (only-first w o.0 o.1) in
            let p = fails (finish_tests T room m) refl e in
            taken e ∙ ap (λ (v : Word). (0, v)) (agreeing A p.1.1.0 w (allowed-accepted w o.0.allowed))
