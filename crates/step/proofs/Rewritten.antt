-- A session written place by place from drafts: one place, on the way, and all of it. Assumes nothing.
use mathlib.Core.Path.{◌≡◌, refl, sym, ◌∙◌, subst}
use mathlib.Core.Logic.{◌⊎◌, inl, inr}
use mathlib.Core.List.{List, []}
use Prim.Native.Nat.{ℕ, ◌+◌, ◌<◌, ◌≤◌}
use native.Mathlib.Omega.{arith}
use lib.ListN.{length, get_or, set, length-map, length-set, get_or-eq_default}
use lib.Seq.{get_or-set_same, get_or-set_other}
use Rattle.words.specs.Lists.{up_to}
use Rattle.words.proofs.Lists.{below_or, length-up_to, get_or-map-up_to}
use Rattle.words.specs.LittleEndian.{byte}
use Rattle.meaning.specs.Answers.{links_cap}
use Rattle.session_meaning.specs.Sessions.{Entry}
use Rattle.session_meaning.specs.Bytes.{link_start, length_start, piece_start, size, link_count, Kept, no_entry}
use Rattle.session_meaning.specs.Bytes.{link_bytes, bytes_of}
use Rattle.session_meaning.specs.Numbers.{Holds, Same, Put}
use Rattle.session_meaning.proofs.Held.{put-others, held_same, same-all, same_then, none_kept, held_all}
use Rattle.links.specs.declared.Link.{Link}
use Rattle.links.specs.Heads.{five_of, Read}
use Rattle.links.proofs.Linked.{read-bytes}
use Rattle.step_drafts.specs.Drafts.{piece_in, draft_in, drafts_of}
use Rattle.step.specs.Writing.{Fitting, drafted, PutFrom, Written}

module _ (work : List ℕ) where
  counted : length (drafts_of work) ≡ link_count work
  counted = length-map (up_to (link_count work)) (draft_in work) ∙ length-up_to (link_count work)

  -- behind the last there is nothing
  none-behind : (p : ℕ) → link_count work ≤ p → get_or (drafts_of work) p no_entry ≡ no_entry
  none-behind p le = get_or-eq_default (drafts_of work) no_entry (omega (arith, counted))

pub put-none : (work : List ℕ) {bytes bytes' : List ℕ} {n p : ℕ} → n ≡ link_count work → n ≤ p
    → Put bytes p (link_bytes no_entry.link) [] bytes' → PutFrom (drafts_of work) bytes p bytes'
put-none work {bytes} {bytes'} {n} {p} e le h =
    subst (λ (e : Entry). Put bytes p (link_bytes e.link) e.piece bytes')
    (sym (none-behind work p (omega arith))) h

-- to a place before their end comes the draft there
module _ {work : List ℕ} (f : Fitting work) (p : ℕ) (lt : p < link_count work) where
  pub put-draft : {bytes bytes' piece : List ℕ} {l : Link} → Read work (link_start p) l → piece ≡ piece_in work p
      → Put bytes p (five_of l) piece bytes' → PutFrom (drafts_of work) bytes p bytes'
  put-draft {bytes} {bytes'} r is h =
      subst (λ (e : Entry). Put bytes p (link_bytes e.link) e.piece bytes')
      (sym (get_or-map-up_to (draft_in work) (link_count work) p no_entry lt)) (rw (read-bytes (f.below p lt) r, is) at h)

-- the places one after the other
pub written_none : (E : List Entry) (bytes : List ℕ) → Written E bytes 0 bytes
written_none E bytes =
    record { whole = refl; done = λ i lt. absurd (omega arith); rest = λ i le lt. same-all bytes i }

pub written-more : {E : List Entry} {bytes bytes' bytes'' : List ℕ} {p : ℕ} → Written E bytes p bytes' → p < links_cap
    → PutFrom E bytes' p bytes'' → Written E bytes (p + 1) bytes''
written-more {E} {bytes} {bytes'} {bytes''} {p} w range h =
    record {
      whole = h.whole ∙ w.whole;
      done = λ i lt. go i (below_or i p) lt;
      rest = λ i le lt. same_then (w.rest i (omega arith) lt) (put-others h range i lt (λ e. omega arith));
    }
  where
    go : (i : ℕ) → (i < p) ⊎ (p ≤ i) → i < p + 1
        → Holds bytes'' i (link_bytes (get_or E i no_entry).link) (get_or E i no_entry).piece
    go i (inl l) lt = held_same (put-others h range i (omega arith) (λ e. omega arith)) (w.done i l)
    go i (inr g) lt = let e : i ≡ p = omega arith in rw e h.here

-- all places, with the depth and the count
module _ (work : List ℕ) {bytes bytes' : List ℕ} {n end : ℕ} (depth : ℕ) (is : n ≡ link_count work) (kept : Kept bytes)
    (le : n ≤ end) (few : link_count bytes ≤ end) (w : Written (drafts_of work) bytes end bytes') where
  abbrev E : List Entry
  E = drafts_of work

  abbrev headed : List ℕ
  headed = set (set bytes' 0 depth) 1 n

  whole : length bytes' ≡ size
  whole = w.whole ∙ kept.whole

  first : byte headed 0 ≡ depth
  first =
      get_or-set_other (set bytes' 0 depth) 1 0 n 0 (λ e. omega arith)
      ∙ get_or-set_same bytes' 0 depth 0 (omega (arith, whole))

  second : byte headed 1 ≡ length E
  second =
      get_or-set_same (set bytes' 0 depth) 1 n 0 (omega (arith, whole, length-set bytes' 0 depth))
      ∙ is
      ∙ sym (counted work)

  other : (k : ℕ) → 2 ≤ k → byte headed k ≡ byte bytes' k
  other k ge =
      get_or-set_other (set bytes' 0 depth) 1 k n 0 (λ e. omega arith)
      ∙ get_or-set_other bytes' 0 k depth 0 (λ e. omega arith)

  same : (i : ℕ) → Same bytes' headed i
  same i =
      record {
        link = λ j lt. other (link_start i + j) (omega arith);
        long = λ j lt. other (length_start i + j) (omega arith);
        piece = λ j lt. other (piece_start i + j) (omega arith);
      }

  holds : (i : ℕ) → i < links_cap → (i < end) ⊎ (end ≤ i)
      → Holds bytes' i (link_bytes (get_or E i no_entry).link) (get_or E i no_entry).piece
  holds i range (inl lt) = w.done i lt
  holds i range (inr ge) =
      subst (λ (e : Entry). Holds bytes' i (link_bytes e.link) e.piece)
      (sym (none-behind work i (omega arith)))
      (held_same (w.rest i ge range) (none_kept kept i range (omega arith)))

  pub written_all : headed ≡ bytes_of (drafted depth work)
  written_all =
      held_all (drafted depth work)
      (length-set (set bytes' 0 depth) 1 n ∙ length-set bytes' 0 depth ∙ whole) first second
      (λ i range. held_same (same i) (holds i range (below_or i end)))
