-- The cut so far: what it has made of the block at the offsets before i. Assumes nothing.
use Rattle.std.proofs.Common.{◌≡◌, ℕ, ◌+◌, ◌*◌, ◌<◌, ◌≤◌, Bool, cond, ltb, ◌⊎◌, List, length, get_or, set, ℤ, pos, ◌≤ℤ◌, sym, refl, ap, ◌∙◌, subst, inl, inr, ⊎_elim, arith}
use lib.Signed.{≤ℤ_refl}
use Rattle.std.proofs.lemmas.List.{length-set, get_or-set_same, get_or_default}
use Rattle.std.proofs.lemmas.Int.{ints, clamps}
use Rattle.std.specs.Int.{int_min}
use Rattle.zmap.specs.Maps.{On, place, relief, size}
use Rattle.zmap.specs.declared.grid.Grid.{Grid}
use Rattle.zmap.specs.declared.node.Node.{Node}
use Rattle.zmap.specs.declared.node.Offset.{Offset}
use Rattle.cutters.specs.Profiles.{Lawful, Profile}
use Rattle.cutters.specs.Rings.{Ring}
use Rattle.milling.specs.Cuts.{Carved, Only, Under}
use Rattle.milling.specs.Losses.{fall, fallen, summed}
use Rattle.milling.specs.Scans.{Bare, Stood}
use Rattle.milling.specs.declared.poses.Pose.{Pose}
use Rattle.zmap.proofs.Places.{place_below}
use Rattle.milling.proofs.Places.{relief_set, set_below}
use Rattle.milling.proofs.Rounds.{Each, each_all, each_more, each_none, each_weaker, here_bare, here_stood, offset_unique}
use Rattle.milling.proofs.Seen.{under_stood}
use Rattle.milling.proofs.Sums.{fall_min, fall_same, fallen_min, fallen_same, summed_same, summed_set}

-- s was cut at one of the offsets before i, to where the block b' has it
pub record CutAt (g : Grid) (P : Profile) (p : Pose) (os : List Offset) (i : ℕ) (b' : List ℤ) (s : Node) : Type 0 where
  pub index : ℕ
  pub spare : Offset
  pub before : index < i
  pub stood : Stood g P p (get_or os index spare) s (relief g b' s)

-- b became b' at the offsets before i, where so many samples fell, and lost so much
pub record Sofar (g : Grid) (P : Profile) (p : Pose) (os : List Offset) (b b' : List ℤ) (i n l : ℕ) : Type 0 where
  pub long : length b' ≡ length b
  pub above : (s : Node) → On g s → relief g b' s ≤ℤ relief g b s
  pub under : Each g P p os i (λ s u. relief g b' s ≤ℤ u)
  pub reached : (s : Node) → On g s → (relief g b' s ≡ relief g b s) ⊎ CutAt g P p os i b' s
  pub samples : n ≡ summed fallen b b'
  pub loss : l ≡ summed fall b b'
  pub few : n ≤ i
  pub little : l ≤ i * 4294967296

cut_later : {g : Grid} {P : Profile} {p : Pose} {os : List Offset} {b' : List ℤ} (b'' : List ℤ) {s : Node} (i : ℕ) → relief g b'' s ≡ relief g b' s → CutAt g P p os i b' s → CutAt g P p os (i + 1) b'' s
cut_later {g} {P} {p} {os} b'' {s} i same at =
    record { index = at.index; spare = at.spare; before = omega (arith, at.before); stood = subst (Stood g P p (get_or os at.index at.spare) s) (sym same) at.stood }

min_either : (x y : ℤ) → (int_min x y ≡ x) ⊎ (int_min x y ≡ y)
min_either x y = grind (arith, ints)

at_most_one : (t : Bool) → cond t 1 0 ≤ 1
at_most_one t = grind arith

module _ {g : Grid} {P : Profile} (p : Pose) (os : List Offset) (b : List ℤ) where
  pub start : Sofar g P p os b b 0 0 0
  start =
      record {
        long = refl;
        above = λ s on. ≤ℤ_refl (relief g b s);
        under = each_none os _;
        reached = λ s on. inl refl;
        samples = sym (summed_same fallen fallen_same b);
        loss = sym (summed_same fall fall_same b);
        few = omega arith;
        little = omega arith;
      }

  -- an offset at which nothing is covered
  pub one_more_bare : (b' : List ℤ) (i : ℕ) (d : Offset) (n l : ℕ) → i < length os → Sofar g P p os b b' i n l → Bare g P p.node (get_or os i d) → Sofar g P p os b b' (i + 1) n l
  one_more_bare b' i d n l lt so bare =
      record {
        long = so.long;
        above = so.above;
        under = each_more os _ i d lt so.under (here_bare _ bare);
        reached = λ s on. ⊎_elim inl (λ at. inr (cut_later b' i refl at)) (so.reached s on);
        samples = so.samples;
        loss = so.loss;
        few = omega (arith, so.few);
        little = omega (arith, so.little);
      }

  -- a sample that is covered at the offset i was not cut before
  fresh : (b' : List ℤ) (i : ℕ) (d : Offset) (n l : ℕ) (s : Node) (u : ℤ) → Ring os → i < length os → Sofar g P p os b b' i n l → Stood g P p (get_or os i d) s u → relief g b' s ≡ relief g b s
  fresh b' i d n l s u ring lt so stood =
      ⊎_elim (λ e. e)
      (λ at.
      let same = offset_unique p.node (get_or os at.index at.spare) (get_or os i d) s at.stood.at stood.at in
      let e : at.index ≡ i = ring.once at.index i at.spare (omega (arith, at.before, ring.size)) (omega (arith, ring.size)) (same ∙ get_or_default os i d at.spare lt) in
      absurd (omega (arith, at.before)))
      (so.reached s stood.on)

  -- an offset at which the sample s is covered, and lowered where it stands above the underside u
  pub one_more : (b' : List ℤ) (i : ℕ) (d : Offset) (n l : ℕ) (s : Node) (u : ℤ) (fell : ℕ) → Ring os → length b ≡ size g → i < length os → Sofar g P p os b b' i n l →
      Stood g P p (get_or os i d) s u → fell ≡ fall (relief g b' s) u → fell < 4294967296 →
      Sofar g P p os b (set b' (place g s) (int_min (relief g b' s) u)) (i + 1) (n + cond (ltb 0 fell) 1 0) (l + fell)
  one_more b' i d n l s u fell ring sized lt so stood is small =
      let x = relief g b s in
      let x' = relief g b' s in
      let v = int_min x' u in
      let q = place g s in
      let b'' = set b' q v in
      let same : x' ≡ x = fresh b' i d n l s u ring lt so stood in
      let sized' : length b' ≡ size g = so.long ∙ sized in
      let inside : q < size g = place_below g s stood.on in
      let inb : q < length b = omega arith in
      let inb' : q < length b' = omega arith in
      let low : v ≤ℤ x' = omega (arith, ints, clamps) in
      let lower : v ≤ℤ u = omega (arith, ints, clamps) in
      let falls = set_below b' q v inb' low in
      record {
        long = length-set b' q v ∙ so.long;
        above = λ t on. omega (arith, ints, falls (place g t), so.above t on);
        under =
            each_more os _ i d lt
            (each_weaker os _ i _ (λ t w under. omega (arith, ints, falls (place g t), under)) so.under)
            (here_stood _ stood (subst (λ y. y ≤ℤ u) (sym (get_or-set_same b' q v (pos 0) inb')) lower));
        reached = λ t on.
            ⊎_elim
            (λ at.
            ⊎_elim
            (λ (e : v ≡ x'). inl (at.1 ∙ e ∙ same ∙ ap (relief g b) at.0))
            (λ (e : v ≡ u). inr (record { index = i; spare = d; before = omega arith; stood = subst (Stood g P p (get_or os i d) t) (sym (at.1 ∙ e)) (subst (λ y. Stood g P p (get_or os i d) y u) at.0 stood) }))
            (min_either x' u))
            (λ left. ⊎_elim (λ e. inl (left ∙ e)) (λ at. inr (cut_later b'' i left at)) (so.reached t on))
            (relief_set g b' s t v sized' stood.on on);
        samples =
            let none : fallen x x' ≡ 0 = ap (fallen x) same ∙ fallen_same x in
            let one : fallen x v ≡ cond (ltb 0 fell) 1 0 = ap (λ y. fallen y v) (sym same) ∙ fallen_min x' u ∙ ap (λ y. cond (ltb 0 y) 1 0) (sym is) in
            omega (arith, summed_set fallen b b' q v (pos 0) inb inb', none, one, so.samples);
        loss =
            let none : fall x x' ≡ 0 = ap (fall x) same ∙ fall_same x in
            let one : fall x v ≡ fell = ap (λ y. fall y v) (sym same) ∙ fall_min x' u ∙ sym is in
            omega (arith, summed_set fall b b' q v (pos 0) inb inb', none, one, so.loss);
        few = omega (arith, so.few, at_most_one (ltb 0 fell));
        little = omega (arith, so.little);
      }

  -- every offset is seen
  pub done : (b' : List ℤ) (j i n l : ℕ) → Ring os → Lawful j P → length os ≤ i → Sofar g P p os b b' i n l → Carved g P (Only p) (relief g b) (relief g b')
  done b' j i n l ring lawful le so =
      record {
        above = so.above;
        under = λ q e s u w. each_all os (λ s u. relief g b' s ≤ℤ u) j i ring lawful le so.under s u (subst (λ y. Under g P y s u) e w);
        reached = λ s on. ⊎_elim inl (λ at. inr (p, relief g b' s, refl, under_stood p at.stood, refl)) (so.reached s on);
      }
