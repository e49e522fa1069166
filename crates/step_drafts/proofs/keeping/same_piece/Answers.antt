-- `step_drafts::keeping::same_piece` meets its contract. Assumes nothing.
use Rattle.std.proofs.Common.{◌≡◌, ◌∙◌, sym, ap, ◌++◌, append_assoc}
use Rattle.std.specs.Prelude.{None, Some}
use Rattle.std.proofs.lemmas.Bool.Decides.{Decides-eqb}
use Rattle.std.proofs.lemmas.List.{append_cancel_left}
use Rattle.std.proofs.lemmas.Slice.Eq.{slice_eq-Decides, strip_prefix_is}
use Rattle.words.specs.Words.{Word}
use Rattle.words.proofs.Exact.{no-exact}
use Rattle.step_drafts.proofs.keeping.same_piece.Goals as goal

module _ (w a b c : Word) where
  -- what begins with the first part is the three exactly where the rest is the other two
  behind : (v : Word) → w ≡ a ++ v → w ≡ a ++ b ++ c → v ≡ b ++ c
  behind v f e = append_cancel_left a v (b ++ c) (sym f ∙ e ∙ append_assoc a b c)

  joined : (v : Word) → w ≡ a ++ v → v ≡ b ++ c → w ≡ a ++ b ++ c
  joined v f e = f ∙ ap (λ (v : Word). a ++ v) e ∙ sym (append_assoc a b c)

pub returns-in_default : goal.returns-in_default
returns-in_default c =
    let other = strip_prefix_is Decides-eqb _ _ None c.in_default.ensures.cases in
    no-exact (λ e. other _ (e ∙ append_assoc c.args.a.now c.args.b.now c.args.c.now))

pub returns-in_default-strip_prefix : goal.returns-in_default-strip_prefix
returns-in_default-strip_prefix c =
    let first = strip_prefix_is Decides-eqb _ _ (Some c.in-Some.behind) c.in-Some.ensures.cases in
    let other = strip_prefix_is Decides-eqb _ _ None c.in_default-strip_prefix.ensures.cases in
    no-exact (λ e. other _ (behind c.args.piece.now c.args.a.now c.args.b.now c.args.c.now _ first e))

pub returns : goal.returns
returns c =
    let first = strip_prefix_is Decides-eqb _ _ (Some c.in-Some.behind) c.in-Some.ensures.cases in
    let second =
    strip_prefix_is Decides-eqb _ _ (Some c.in-Some-strip_prefix.last) c.in-Some-strip_prefix.ensures.cases in
    let third = slice_eq-Decides Decides-eqb _ _ _ c.eq.ensures in
    let b = c.args.b.now in (
      λ e.
          third.1 (append_cancel_left b _ _
          (sym second ∙ behind c.args.piece.now c.args.a.now b c.args.c.now _ first e)),
      λ e.
          joined c.args.piece.now c.args.a.now b c.args.c.now _ first
          (second ∙ ap (λ (w : Word). b ++ w) (third.0 e)),
    )
