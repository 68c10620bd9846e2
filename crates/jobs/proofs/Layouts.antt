-- The words of each kind of record, read off from what they make. Assumes nothing.
use Rattle.std.proofs.Common.{◌≡◌, ℕ, zero, suc, ◌*◌, ◌≤◌, Bool, true, false, cond, leb, List, [], ◌∷◌, length, ℤ, pos, nat_abs, Some, None, Ok, Option, refl, ap, ◌∙◌, subst, le-leb, leb-true, arith}
use Rattle.zmap.specs.Faults.{grid_fault}
use Rattle.zmap.specs.declared.fault.Fault.TheVariants as fault
use Rattle.setups.specs.declared.clamp.Clamp.{Clamp}
use Rattle.jobs.specs.declared.job.Move.{Move}
use Rattle.jobs.specs.declared.job.Move.TheVariants.{Pose}
use Rattle.setups.specs.Clamps.{clamp_fault}
use Rattle.jobs.specs.Items.{nth, is_kind, Extent, extent_of, Turned, flat, cone, ball, turned_pitch, turned_fault, fitted, known, turned_in, turned_of, height_of, clamp_in, clamp_of, move_of}
use Rattle.jobs.specs.Encodings.{GridWords, CutterWords, HeightWords, ClampWords, MoveWords}
use Rattle.jobs.proofs.Exactness.{Made}
use Rattle.std.proofs.lemmas.Int.{ints}
use Rattle.jobs.proofs.Checks.{refusing_takes, cond_takes, kind_takes}

-- the values of f below n, in their order
tabled : ℕ → (ℕ → ℤ) → List ℤ
tabled zero f = []
tabled (suc n) f = f 0 ∷ tabled n (λ i. f (suc i))

as_tabled : (us : List ℤ) → us ≡ tabled (length us) (nth us)
unfolding tabled
as_tabled [] = refl
as_tabled (u ∷ us) = ap (λ vs. u ∷ vs) (as_tabled us)

-- a record of n words, word by word
spread : (n : ℕ) (us : List ℤ) → length us ≡ n → us ≡ tabled n (nth us)
spread n us e = as_tabled us ∙ ap (λ k. tabled k (nth us)) e

pub spread_one : (us : List ℤ) → length us ≡ 1 → us ≡ nth us 0 ∷ []
unfolding tabled
spread_one us e = spread 1 us e

-- a grid that is allowed
abbrev pub Gridded : Extent → Type 0
Gridded g = (grid_fault (pos g.columns) (pos g.rows) (pos g.pitch) ≡ None) × (g.columns * g.rows ≤ 4096)

pub grid_takes : (g : Extent) (us : List ℤ) → Made 3 extent_of g us → GridWords g us × Gridded g
unfolding tabled
grid_takes g us m =
    let s = spread 3 us m.0 in
    let t = refusing_takes (grid_fault (nth us 0) (nth us 1) (nth us 2)) _ g m.1 in
    let c : pos (nat_abs (nth us 0)) ≡ nth us 0 = grind (arith, ints, t.0) in
    let r : pos (nat_abs (nth us 1)) ≡ nth us 1 = grind (arith, ints, t.0) in
    let p : pos (nat_abs (nth us 2)) ≡ nth us 2 = grind (arith, ints, t.0) in
    let d = cond_takes (leb (nat_abs (nth us 0) * nat_abs (nth us 1)) 4096) _ fault.Count g t.1 in
    let e : record { columns = nat_abs (nth us 0); rows = nat_abs (nth us 1); pitch = nat_abs (nth us 2) } ≡ g = cc in
    subst (λ x. GridWords x us × Gridded x) e (rw (c, r, p) s, (grind (arith, ints, t.0), leb-true _ 4096 d.0))

pub grid_gives : (g : Extent) (us : List ℤ) → GridWords g us → Gridded g → Made 3 extent_of g us
grid_gives g us w a = rw w (refl, rw (a.0, le-leb _ 4096 a.1))

-- a cutter that is allowed at the pitch
abbrev pub Fitted : ℕ → Turned → Type 0
Fitted pitch t = (turned_pitch t ≡ pitch) × (turned_fault t ≡ None)

known_takes : (o : Option Turned) (t : Turned) → known o ≡ Ok t → (o ≡ Some t) × (turned_fault t ≡ None)
unfolding fitted
known_takes o t h = grind arith

-- the words of a cutter, and its pitch
abbrev Worded : ℕ → List ℤ → Turned → Type 0
Worded pitch us t = CutterWords t us × (turned_pitch t ≡ pitch)

kinds : (pitch : ℕ) (us : List ℤ) (t : Turned) (k r a b : ℤ) (one two three : Bool) → us ≡ k ∷ r ∷ a ∷ b ∷ [] →
    (one ≡ true → k ≡ pos 1) → (two ≡ true → k ≡ pos 2) → (three ≡ true → k ≡ pos 3) →
    cond one (Some (flat pitch r)) (cond two (Some (cone pitch r a b)) (cond three (Some (ball pitch r)) None)) ≡ Some t → Worded pitch us t
kinds pitch us t k r a b true two three s is_flat is_cone is_ball h =
    let e : flat pitch r ≡ t = cc in let n = is_flat refl in subst (Worded pitch us) e ((a, b, cc), refl)
kinds pitch us t k r a b false true three s is_flat is_cone is_ball h =
    let e : cone pitch r a b ≡ t = cc in let n = is_cone refl in subst (Worded pitch us) e (cc, refl)
kinds pitch us t k r a b false false true s is_flat is_cone is_ball h =
    let e : ball pitch r ≡ t = cc in let n = is_ball refl in subst (Worded pitch us) e ((a, b, cc), refl)
kinds pitch us t k r a b false false false s is_flat is_cone is_ball h = cc

pub cutter_takes : (pitch : ℕ) (t : Turned) (us : List ℤ) → Made 4 (turned_of pitch) t us → CutterWords t us × Fitted pitch t
unfolding tabled
cutter_takes pitch t us m =
    let k = known_takes (turned_in pitch us) t m.1 in
    let w = kinds pitch us t (nth us 0) (nth us 1) (nth us 2) (nth us 3) (is_kind 1 (nth us 0)) (is_kind 2 (nth us 0)) (is_kind 3 (nth us 0)) (spread 4 us m.0) (kind_takes 1 (nth us 0)) (kind_takes 2 (nth us 0)) (kind_takes 3 (nth us 0)) k.0 in
    (w.0, (w.1, k.1))

pub cutter_gives : (pitch : ℕ) (t : Turned) (us : List ℤ) → CutterWords t us → Fitted pitch t → Made 4 (turned_of pitch) t us
unfolding fitted
cutter_gives pitch (flat p r) us w a = rw (w.2, ← a.0) (refl, rw a.1)
cutter_gives pitch (cone p r t s) us w a = rw (w, ← a.0) (refl, rw a.1)
cutter_gives pitch (ball p r) us w a = rw (w.2, ← a.0) (refl, rw a.1)

pub height_takes : (z : ℤ) (us : List ℤ) → Made 1 height_of z us → HeightWords z us × Unit {0}
unfolding tabled
height_takes z us m = (spread 1 us m.0 ∙ ap (λ x. x ∷ []) (let e : nth us 0 ≡ z = cc in e), tt)

pub height_gives : (z : ℤ) (us : List ℤ) → HeightWords z us → Unit {0} → Made 1 height_of z us
height_gives z us w a = rw w (refl, refl)

pub clamp_takes : (columns rows : ℕ) (k : Clamp) (us : List ℤ) → Made 5 (clamp_of columns rows) k us → ClampWords k us × (clamp_fault columns rows k ≡ None)
unfolding tabled
clamp_takes columns rows k us m =
    let t = refusing_takes (clamp_fault columns rows (clamp_in us)) _ k m.1 in
    let e : clamp_in us ≡ k = cc in (
      spread 5 us m.0 ∙ ap (λ x. x.columns.first ∷ x.rows.first ∷ x.columns.last ∷ x.rows.last ∷ x.height ∷ []) e,
      subst (λ x. clamp_fault columns rows x ≡ None) e t.0,
    )

pub clamp_gives : (columns rows : ℕ) (k : Clamp) (us : List ℤ) → ClampWords k us → clamp_fault columns rows k ≡ None → Made 5 (clamp_of columns rows) k us
clamp_gives columns rows k us w a = rw w (refl, rw a)

pub move_takes : (m : Move) (us : List ℤ) → Made 7 move_of m us → MoveWords m us × Unit {0}
unfolding tabled
move_takes (Pose p) us m =
    let k = cond_takes (is_kind 1 (nth us 0)) (Ok (Pose (record { column = nth us 1; row = nth us 2; tip = nth us 3 }))) fault.Kind (Pose p) m.1 in
    let e : record { column = nth us 1; row = nth us 2; tip = nth us 3 } ≡ p = cc in
    let n = kind_takes 1 (nth us 0) k.0 in
    let s = spread 7 us m.0 in
    (subst (λ q. MoveWords (Pose q) us) e (nth us 4, nth us 5, nth us 6, cc), tt)

pub move_gives : (m : Move) (us : List ℤ) → MoveWords m us → Unit {0} → Made 7 move_of m us
move_gives (Pose p) us w a = rw w.3 (refl, refl)
