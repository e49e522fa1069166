-- What a row of the first gives, by the class of its symbol, and that its endings suit. Assumes nothing.
use mathlib.Core.Path.{◌≡◌, refl, sym, ◌∙◌, ap}
use mathlib.Core.Bool.{Bool, true, false}
use mathlib.Core.List.Memᴰ
use mathlib.Core.List.{List, [], ◌∷◌, map, append-nil, reverse}
use Prim.Native.Nat.{ℕ, suc, ◌+◌, ◌<◌, ◌≤◌}
use native.Mathlib.Nat.{mul-le-mul_right}
use native.Mathlib.Omega.{arith}
use lib.ListN.{length, take}
use lib.Seq.{slice_empty}
use Rattle.words.specs.Lists.{◌among◌, each, only, is_empty, up_to}
use Rattle.words.specs.Words.{Word}
use Rattle.words.specs.Order.{rank}
use Rattle.words.proofs.Lists.{each_map}
use Rattle.words.proofs.Each.{map_each}
use Rattle.meaning.specs.Table.{Class, unused, call, return, internal, is, Row, Table, row_key, edition1, GoodRow}
use Rattle.meaning.specs.Table.{GoodTable}
use Rattle.meaning.specs.Runs.{Config, config}
use Rattle.meaning.specs.Joining.{endings, readings, pair_number, Mark, mark, mark_key, pushed, marks, mark_number}
use Rattle.meaning.specs.Joining.{starts_of}
use Rattle.meaning.specs.Joining.{leaves}
use Rattle.meaning.specs.Joining.{marker_of, joined_row, rows_from, rows_of}
use Rattle.meaning.proofs.Reading.{endings-out, run_inside}
use Rattle.meaning.proofs.Joined.{Joins, marks-in}
use Rattle.table.specs.File.{row_count, word_of, row_at, table_of}
use Rattle.table.proofs.Stands.{good-table, rows-of}
use Rattle.join_shelf.specs.Shelved.{words_of}
use Rattle.join_shelf.proofs.Keys.{keys-rank}
use Rattle.join_nesting.proofs.ByRow.{row-among}
use Rattle.join.specs.Reading.{stack_room, config_of, left_key, left_number, marks_of, keys_of, Suited, findings}
use Rattle.join.specs.Reading.{Reads, Ranked}
use Rattle.join.specs.Gathering.{Small, At, Marked, call_goal, close_goal, plan_of, found_by, given_at, given_by}
use Rattle.join.specs.Gathering.{all_keys}
use Rattle.join.specs.declared.reading.Cursor.{Cursor}
use Rattle.join.specs.declared.reading.Goal.{Goal}
use Rattle.join.specs.declared.gathering.Wanted.{Wanted}
use Rattle.join.specs.declared.gathering.Wanted.TheVariants.{Marks, Rows}
use Rattle.join.specs.declared.gathering.Plan.TheVariants.{Skip, Read, FromMarks}

-- lists: nothing is made of any; a function after a test

each_none : {A B : Type 0} (f : A → List B) (l : List A) → ((x : A) → f x ≡ []) → each f l ≡ []
each_none f [] h = refl
each_none f (x ∷ l) h = rw (h x) (each_none f l h)

map-only : {A B : Type 0} (g : A → B) (b : Bool) (x : A) → map g (only b x) ≡ only b (g x)
map-only g true x = refl
map-only g false x = refl

-- what is given row by row and state by state is what the meaning lists

keys-all : {T : Type 0} (key : T → Word) (F : Row → ℕ → List T) (a : List ℕ) (n : ℕ)
    → each (λ x. each (λ q. map key (F (row_at a x) q)) (up_to n)) (up_to (row_count a))
    ≡ map key (each (λ x. each (F x) (up_to n)) (table_of a).rows)
keys-all key F a n =
    sym
    (map_each key (λ x. each (F x) (up_to n)) (table_of a).rows
    ∙ (λ i. each (λ x. map_each key (F x) (up_to n) i) (rows-of a i))
    ∙ each_map (λ x. each (λ q. map key (F x q)) (up_to n)) (row_at a) (up_to (row_count a)))

pub by-states : (wanted : Wanted) (a b : List ℕ) (x : ℕ)
    → each (given_at wanted a b x) (up_to (table_of b).states) ≡ given_by wanted a b x
unfolding given_by
by-states wanted a b x = refl

pub given-all : (wanted : Wanted) (a b : List ℕ)
    → each (given_by wanted a b) (up_to (row_count a)) ≡ all_keys wanted (table_of a) (table_of b)
unfolding given_by given_at
given-all Marks a b = keys-all mark_key (pushed (table_of a) (table_of b)) a (table_of b).states
given-all (Rows count) a b =
    keys-all row_key (rows_of (table_of a) (table_of b) (marks (table_of a) (table_of b))) a (table_of b).states

-- small files: their tables are good, and pairs of states are bytes

module _ {a b : List ℕ} (s : Small a b) where
  second-good : GoodTable edition1 (table_of b)
  second-good = good-table (omega arith) b s.hops.second-bytes s.hops.second

  row-good : (x : ℕ) → x < row_count a → GoodRow edition1 (table_of a) (row_at a x)
  row-good x l = (good-table (omega arith) a s.hops.first-bytes s.hops.first).row (row_at a x) (row-among a x l)

  pair_small : {p q : ℕ} → p < (table_of a).states → q < (table_of b).states → pair_number (table_of b).states p q < 64
  pair_small l m = let e = mul-le-mul_right (table_of b).states l in omega (arith, s.states)

-- the endings of a row's readings suit what is asked of them

module _ {a b : List ℕ} {x q : ℕ} (h : At a b x q) where
  pub from_byte : {p : ℕ} → p ≡ (row_at a x).from → pair_number (table_of b).states p q < 256
  from_byte e = rw e (omega (arith, pair_small h.small (row-good h.small x h.row).from h.state))

  pub to-byte : {p : ℕ} → p ≡ (row_at a x).to → pair_number (table_of b).states p 0 < 256
  to-byte e =
      let some : 0 < (table_of b).states = omega (arith, h.state) in
      rw e (omega (arith, pair_small h.small (row-good h.small x h.row).to some))

  to-small : (s : List ℕ) {e : Config} → e among readings (table_of b) (row_at a x) q s
      → pair_number (table_of b).states (row_at a x).to 0 + e.state < 256
  to-small s {e} m =
      let run = (endings-out (table_of b) (word_of a x) (config q s []) e m).1 in
      let in-second = run_inside (table_of b) (second-good h.small) run h.state in
      omega (arith, pair_small h.small (row-good h.small x h.row).to in-second)

  mark-in : {e : Config} → (table_of a).class (row_at a x).symbol ≡ call
      → e among readings (table_of b) (row_at a x) q []
      → mark (row_at a x).marker e.stack among marks (table_of a) (table_of b)
  mark-in {e} c m =
      let j : Joins (table_of a) (table_of b) =
      record {
        by = row_at a x;
        at = q;
        start = [];
        end = e;
        row = row-among a x h.row;
        inside = h.state;
        starts = rw c (Memᴰ.head refl);
        reading = m;
        left = ap (λ (k : Class). leaves k e.stack) c;
      } in
      marks-in (table_of a) (table_of b) j c

  pub suited-close : {keys : List Word} (number : ℕ) (s : List ℕ)
      → Suited keys (close_goal a b x q number) (readings (table_of b) (row_at a x) q s)
  suited-close number s = record { each = λ e m. to-small s m }

  suited-call : (wanted : Wanted) (room : List ℕ) → Marked wanted a b room
      → (table_of a).class (row_at a x).symbol ≡ call → let goal = call_goal wanted a b x q in
      Suited (marks_of room goal) goal (readings (table_of b) (row_at a x) q [])
  suited-call Marks room m c = record { each = λ e m. tt }
  suited-call (Rows count) room m c =
      record { each = λ e n. (to-small [] n, rw m.are (Memᴰ.map mark_key (mark-in c n))) }

-- a reading of the row's word, with so many markers on the tape and nothing written

module _ (a b : List ℕ) (x : ℕ) (w : Word) (is : w ≡ word_of a x) (q height : ℕ) where
  abbrev cursor : Cursor
  cursor = record { state = q; height = height; end = stack_room }

  pub row_reads : At a b x q → height ≤ 16 → Reads b cursor w
  row_reads h low =
      let long = ap length is in
      let short = h.small.words (row_at a x) (row-among a x h.row) in
      record {
        good = h.small.hops.second;
        high = omega arith;
        behind = omega arith;
        room = omega arith;
      }

  module _ (tape : List ℕ) where
    abbrev start : Config
    start = config q (reverse (take height tape)) []

    begins : config_of cursor tape ≡ start
    begins = ap (config q (reverse (take height tape))) (slice_empty stack_room tape)

    pub row-suited : {keys : List Word} {goal : Goal} → Suited keys goal (endings (table_of b) (word_of a x) start)
        → Suited keys goal (endings (table_of b) w (config_of cursor tape))
    row-suited s = rw (is, begins) s

    pub row-found : (keys : List Word) (goal : Goal)
        → findings b keys goal w (config_of cursor tape) ≡ found_by a b keys goal x q (reverse (take height tape))
    row-found keys goal = λ i. findings b keys goal (is i) (begins i)

-- the keys that endings give are those of the joined rows

module _ (a b : List ℕ) (x q : ℕ) where
  abbrev A : Table
  A = table_of a

  abbrev B : Table
  B = table_of b

  abbrev L : List Mark
  L = marks A B

  abbrev r : Row
  r = row_at a x

  abbrev Of : Class → Type 0
  Of k = A.class r.symbol ≡ k

  to_is : (e : Config) → pair_number B.states r.to 0 + e.state ≡ pair_number B.states r.to e.state
  to_is e = omega arith

  -- a row that is read from an empty stack only
  one-start : {k : Class} → Of k → starts_of L k r.marker ≡ [] ∷ []
      → (count : ℕ) → map row_key (rows_from B L k r q []) ≡ given_at (Rows count) a b x q
  unfolding given_at
  one-start {k} c e count =
      sym
      (ap (λ (k : Class). map row_key (each (rows_from B L k r q) (starts_of L k r.marker))) c
      ∙ ap (λ (z : List (List ℕ)). map row_key (each (rows_from B L k r q) z)) e
      ∙ ap (map row_key) (append-nil (rows_from B L k r q [])))

  module _ (keys : List Word) where
    -- a goal that gives the joined rows of all endings
    pub rows-one : (k : Class) (s : List ℕ) (goal : Goal)
        → ((e : Config) → keys_of keys goal e ≡ map row_key (only (leaves k e.stack) (joined_row B L k r q s e)))
        → found_by a b keys goal x q s ≡ map row_key (rows_from B L k r q s)
    unfolding findings
    rows-one k s goal f =
        (λ i. each (λ e. f e i) (readings B r q s))
        ∙ sym (map_each row_key (λ e. only (leaves k e.stack) (joined_row B L k r q s e)) (readings B r q s))

    pub close-keys : (k : Class) (s : List ℕ) {m : ℕ} (e : Config) → leaves k e.stack ≡ is_empty e.stack
        → m ≡ marker_of L k r.marker s e.stack
        → keys_of keys (close_goal a b x q m) e ≡ map row_key (only (leaves k e.stack) (joined_row B L k r q s e))
    close-keys k s e l n =
        ap (λ (w : Word). only (is_empty e.stack) w)
        (λ i. r.symbol ∷ pair_number B.states r.from q ∷ n i ∷ to_is e i ∷ e.output)
        ∙ sym (map-only row_key (is_empty e.stack) (joined_row B L k r q s e))
        ∙ ap (λ (c : Bool). map row_key (only c (joined_row B L k r q s e))) (sym l)

    call-keys : keys ≡ map mark_key L → (count : ℕ) (e : Config)
        → keys_of keys (call_goal (Rows count) a b x q) e ≡ map row_key (only true (joined_row B L call r q [] e))
    call-keys are count e =
        λ i. (r.symbol ∷ pair_number B.states r.from q ∷ number_is i ∷ to_is e i ∷ e.output) ∷ []
      where
        number_is : left_number keys r.marker e ≡ mark_number L (mark r.marker e.stack)
        number_is =
            ap (λ (l : List Word). suc (rank (λ (w : Word). w) l (left_key r.marker e))) are
            ∙ ap suc (sym (keys-rank mark_key L (mark r.marker e.stack)))

    found-internal : Of internal → (count : ℕ)
        → found_by a b keys (close_goal a b x q 0) x q [] ≡ given_at (Rows count) a b x q
    found-internal c count =
        rows-one internal [] (close_goal a b x q 0) (λ e. close-keys internal [] e refl refl) ∙ one-start c refl count

  found-call : (wanted : Wanted) (room : List ℕ) → Marked wanted a b room → Of call
      → let goal = call_goal wanted a b x q in found_by a b (marks_of room goal) goal x q [] ≡ given_at wanted a b x q
  unfolding findings given_at
  found-call Marks room m c =
      let left : Config → Mark = λ e. mark r.marker e.stack in
      sym
      (ap (λ (k : Class). map mark_key (each (λ e. only (is k call) (left e)) (readings B r q []))) c
      ∙ map_each mark_key (λ e. only true (left e)) (readings B r q []))
  found-call (Rows count) room m c =
      let keys = words_of room count in
      rows-one keys call [] (call_goal (Rows count) a b x q) (call-keys keys m.are count) ∙ one-start c refl count

  none-pushed : {k : Class} → Of k → is k call ≡ false → [] ≡ given_at Marks a b x q
  unfolding given_at
  none-pushed {k} c f =
      sym
      (ap (λ (d : Bool). map mark_key (each (λ e. only d (mark r.marker e.stack)) (readings B r q [])))
      (ap (λ (k : Class). is k call) c ∙ f)
      ∙ ap (map mark_key) (each_none _ (readings B r q []) (λ e. refl)))

  none-started : Of unused → (count : ℕ) → [] ≡ given_at (Rows count) a b x q
  unfolding given_at
  none-started c count = rw c

  -- by the plan

  pub plan-skip : (wanted : Wanted) (k : Class) → Of k → plan_of wanted k a b x q ≡ Skip → [] ≡ given_at wanted a b x q
  plan-skip Marks unused c p = none-pushed c refl
  plan-skip (Rows count) unused c p = none-started c count
  plan-skip wanted call c p = absurd (let z : ◌≡◌ {A = ℕ} 0 1 = cc in omega arith)
  plan-skip Marks return c p = none-pushed c refl
  plan-skip (Rows count) return c p = absurd (let z : ◌≡◌ {A = ℕ} 0 1 = cc in omega arith)
  plan-skip Marks internal c p = none-pushed c refl
  plan-skip (Rows count) internal c p = absurd (let z : ◌≡◌ {A = ℕ} 0 1 = cc in omega arith)

  pub plan-marks : (wanted : Wanted) (k : Class) {count : ℕ} → plan_of wanted k a b x q ≡ FromMarks count
      → (wanted ≡ Rows count) × (k ≡ return)
  plan-marks wanted unused p = absurd (let z : ◌≡◌ {A = ℕ} 0 1 = cc in omega arith)
  plan-marks wanted call p = absurd (let z : ◌≡◌ {A = ℕ} 0 1 = cc in omega arith)
  plan-marks Marks return p = absurd (let z : ◌≡◌ {A = ℕ} 0 1 = cc in omega arith)
  plan-marks (Rows count) return p = (ap Rows (let e : count ≡ _ = cc in e), refl)
  plan-marks Marks internal p = absurd (let z : ◌≡◌ {A = ℕ} 0 1 = cc in omega arith)
  plan-marks (Rows count) internal p = absurd (let z : ◌≡◌ {A = ℕ} 0 1 = cc in omega arith)

  -- what is read from an empty stack suits, and gives what the row gives
  pub record Reading (room : List ℕ) (wanted : Wanted) (goal : Goal) : Type 0 where
    pub ranked : Ranked room goal
    pub suited : Suited (marks_of room goal) goal (readings B r q [])
    pub gives : found_by a b (marks_of room goal) goal x q [] ≡ given_at wanted a b x q

  call-ranked : (wanted : Wanted) (room : List ℕ) → Marked wanted a b room → Ranked room (call_goal wanted a b x q)
  call-ranked Marks room m = tt
  call-ranked (Rows count) room m = m.numbered

  pub plan-read : {room : List ℕ} {goal : Goal} → At a b x q → (wanted : Wanted) (k : Class) → Marked wanted a b room
      → Of k → plan_of wanted k a b x q ≡ Read goal → Reading room wanted goal
  plan-read h wanted unused m c p = absurd (let z : ◌≡◌ {A = ℕ} 0 1 = cc in omega arith)
  plan-read {room} {goal} h wanted call m c p =
      let e : call_goal wanted a b x q ≡ goal = cc in
      rw (← e)
      (record {
        ranked = call-ranked wanted room m;
        suited = suited-call h wanted room m c;
        gives = found-call wanted room m c;
      })
  plan-read h Marks return m c p = absurd (let z : ◌≡◌ {A = ℕ} 0 1 = cc in omega arith)
  plan-read h (Rows count) return m c p = absurd (let z : ◌≡◌ {A = ℕ} 0 1 = cc in omega arith)
  plan-read h Marks internal m c p = absurd (let z : ◌≡◌ {A = ℕ} 0 1 = cc in omega arith)
  plan-read {goal = goal} h (Rows count) internal m c p =
      let e : close_goal a b x q 0 ≡ goal = cc in
      rw (← e) (record { ranked = tt; suited = suited-close h 0 []; gives = found-internal [] c count })
