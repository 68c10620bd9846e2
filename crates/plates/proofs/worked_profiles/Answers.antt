-- Each profile is that of the shape.
use Rattle.plates.proofs.Values.{plates, ball_told, cone_told}
use Rattle.plates.proofs.worked_profiles.Goals as goal

pub returns : goal.returns
returns c =
    let holds = c.new.ensures.holds in
    let ball = simp c.unwrap-ball.ensures at holds in
    let stands = c.new-2.ensures.holds in
    let cone = simp c.unwrap-cone.ensures at stands in
    let beside = ball_told _ _ _ _ _ ball c.profile-beside.ensures.value plates.beside in
    let second = ball_told _ _ _ _ _ ball c.profile-second.ensures.value plates.second in
    let rim = ball_told _ _ _ _ _ ball c.profile-rim.ensures.value plates.rim in
    let past = ball_told _ _ _ _ _ ball c.profile-past.ensures.value plates.past in
    let level = cone_told _ _ _ _ _ _ _ cone c.profile-level.ensures.value plates.level in
    let slant = cone_told _ _ _ _ _ _ _ cone c.profile-slant.ensures.value plates.slant in
    let third = cone_told _ _ _ _ _ _ _ cone c.profile-third.ensures.value plates.third in
    record { values = cc; plates = plates }
