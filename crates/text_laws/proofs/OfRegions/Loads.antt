-- Four scripts, one for each region.
use Rattle.std.proofs.Common.{◌≡◌, ℕ, zero, suc, ◌+◌, ◌*◌, ◌≤◌, List, [], ◌∷◌, ◌++◌, length, refl, sym, ap, ◌∙◌, arith}
use Rattle.std.specs.Prelude.{sum_by}
use Rattle.std.specs.List.{AllPairs}
use Rattle.std.proofs.lemmas.List.Sums.{sum_by-cons, sum_by-append}
use Rattle.vw_cell.specs.declared.cells.Cell.{Cell}
use Rattle.vw_cell.specs.Counts.{cell_at, number_in, IsBelow, number_below-same}
use Rattle.history_model.specs.Contents.{Content}
use Rattle.node_words.specs.Plans.{Layout}
use Rattle.history_model.specs.declared.acts.Act.{Act}
use Rattle.history_model.specs.declared.histories.Record.{Record}
use Rattle.history_model.specs.Logs.{Log}
use Rattle.history_model.specs.Moments.{world_has}
use Rattle.transcript.specs.declared.answers.LineAnswer.{LineAnswer}
use Rattle.conformance.specs.Agreeing.{SessionAgrees, InOrder}
use Rattle.conformance.specs.Answers.{IsUnforgotten}
use Rattle.conformance.specs.Shown.{Accepted, SameItems, numbered, accepted_in}
use Rattle.conformance.specs.Passes.{own_of}
use Rattle.conformance.specs.Statements.{AllRecordsAreOwn}
use Rattle.gen_load.specs.Draws.{state_after}
use Rattle.gen_load.specs.Loads.{load_model, line_state, edits_from, edit_from}
use Rattle.gen_load.specs.RegionLaws.{edits_lie_in_regions}
use Rattle.std.proofs.lemmas.List.{length_push}
use Rattle.gen_load.specs.Regions.{IsInRegion}
use Rattle.text_laws.specs.loads.Commands.{region_box}
use Rattle.text_laws.specs.regions.Runs.{made_alone}
use Rattle.text_laws.specs.regions.LastCounts.{last_count, line_count}
use Rattle.text_laws.specs.regions.Statements.{region_script, region_number, AreOfRegion, RegionsAreCounted, LoadsAreCounted, load_edits}
use Rattle.text_laws.proofs.OfRegions.Showing.{asks, few_shown, none_weighs}
use Rattle.text_laws.proofs.OfRegions.Regions.{region_local}
use Rattle.text_laws.proofs.OfRegions.Counting.{misfit, own_suits, other_suits, region_cell}
use Rattle.text_laws.proofs.OfRegions.Ends.{Ends, ends, count_is}

-- ---- sums

ones : {X : Type 0} (xs : List X) → sum_by (λ (x : X). 1) xs ≡ length xs
ones [] = refl
ones {X} (x ∷ xs) = let more = ones xs in sum_by-cons (λ (y : X). 1) x xs ∙ (omega (arith, more))

numbered_length : (n : ℕ) (records : List Record) → length (numbered n records) ≡ length records
numbered_length n [] = refl
numbered_length n (r ∷ more) = ap suc (numbered_length (n + 1) more)

four : (f : Accepted → ℕ) (a b c d : List Accepted)
    → sum_by f (a ++ (b ++ (c ++ (d ++ [])))) ≡ sum_by f a +
    (sum_by f b + (sum_by f c + sum_by f d))
four f a b c d =
    let of_a = sum_by-append f a (b ++ (c ++ (d ++ []))) in
    let of_b = sum_by-append f b (c ++ (d ++ [])) in
    let of_c = sum_by-append f c (d ++ []) in
    let of_d = sum_by-append f d [] in
    let none : sum_by f [] ≡ 0 = refl in
    omega (arith, of_a, of_b, of_c, of_d, none)

-- ---- one session of a load

abbrev shown : ℕ → ℕ → List Act → List LineAnswer → List Accepted
shown session x acts t = accepted_in session (region_script x acts) t

pub record Part (p : Layout) (model : Content) (log : Log) (session x : ℕ) (acts : List Act)
    (t : List LineAnswer) : Type 0 where
  pub region : AreOfRegion x acts
  pub pairs : AllPairs InOrder t
  pub end : Ends p (model ∷ []) log session (asks 201 (region_box x)) t

part_of : (p : Layout) (model : Content) (log : Log) (session x : ℕ) (acts : List Act)
    (t : List LineAnswer) → AreOfRegion x acts
    → SessionAgrees p (model ∷ []) log session (region_script x acts) t
    → Part p model log session x acts t
part_of p model log session x acts t region agrees = record {
  region = region;
  pairs = agrees.moments;
  end = ends p (model ∷ []) log session 1
      (asks 201 (region_box x)) acts t agrees.lines agrees.moments;
}

few : (p : Layout) (model : Content) (log : Log) (session x : ℕ) (acts : List Act)
    (t : List LineAnswer) → Part p model log session x acts t
    → length (shown session x acts t) ≤ 200
few p model log session x acts t part =
    let most = few_shown session 1 201 (region_box x) acts t in let n = part.region.number in omega
    (arith, most, n)

own_weigh : (p : Layout) (model : Content) (log : Log) (session x : ℕ) (acts : List Act)
    (t : List LineAnswer) (q : Cell) → (part : Part p model log session x acts t)
    → sum_by (misfit (model ∷ []) q session part.end.line.at) (shown session x acts t) ≡ 0
own_weigh p model log session x acts t q part =
    none_weighs (misfit (model ∷ []) q session part.end.line.at) part.end.line.at session 1 201
    (region_box x) acts t part.end.within
    (λ k d within n at few. own_suits (model ∷ []) q session part.end.line.at x _ n at
    (part.region.lie k d within) few)

other_weigh : (p : Layout) (model : Content) (log : Log) (session most other x : ℕ)
    (acts : List Act) (t : List LineAnswer) (q : Cell) → Part p model log other x acts t
    → model.size ≡ record { x = 32; y = 32; z = 32 } → (IsInRegion x q → ⊥) → (other ≡ session → ⊥)
    → sum_by (misfit (model ∷ []) q session most) (shown other x acts t) ≡ 0
other_weigh p model log session most other x acts t q part size apart differ =
    none_weighs (misfit (model ∷ []) q session most) part.end.line.at other 1 201
    (region_box x) acts t part.end.within
    (λ k d within n at few. other_suits model q session other most x _ n at size
    (part.region.lie k d within) apart differ)

-- the cells of the region's box are those of the region
in_region : (x : ℕ) (q : Cell) → x ≤ 192 → IsBelow (record { x = 64; y = 256; z = 256 }) q
    → IsInRegion x (cell_at (x + q.x) (0 + q.y) (0 + q.z))
in_region x q low below = let bx = below.x in let by' = below.y in let bz = below.z in record {
  world = record { x = omega (arith, low, bx); y = omega (arith, by'); z = omega (arith, bz) };
  from = omega arith;
  to = omega (arith, bx);
}

one_region : (p : Layout) (model : Content) (log : Log) (session x : ℕ) (acts : List Act)
    (t : List LineAnswer) → (part : Part p model log session x acts t) → x ≤ 192
    → SameItems (own_of (λ c. c.entry.session) session (numbered 1 log.records))
    (shown session x acts t) → length (shown session x acts t) ≡ 200
    → ((q : Cell) → IsInRegion x q
    → sum_by (misfit (model ∷ []) q session part.end.line.at) (numbered 1 log.records) ≡ 0)
    → last_count t ≡ region_number (model ∷ []) x acts
one_region p model log session x acts t part low same all none =
    let n = part.end.line.at in
    let told : last_count t ≡ number_in (region_box x) (world_has (model ∷ []) log.records n) =
    ap line_count part.end.last
    ∙ count_is p (model ∷ []) log (IsUnforgotten log.marks session 201 n) session 201 n
    (region_box x) _ part.end.line.answer refl part.end.fits.answers in
    let whole : length (shown session x acts t) ≡ length acts = all ∙ sym part.region.number in
    told ∙ number_below-same (record { x = 64; y = 256; z = 256 })
    (λ q. world_has (model ∷ []) log.records n (cell_at (x + q.x) (0 + q.y) (0 + q.z)))
    (λ q. made_alone (model ∷ []) acts (cell_at (x + q.x) (0 + q.y) (0 + q.z)))
    (λ q below. region_cell (model ∷ []) session n 201
    (cell_at (x + q.x) (0 + q.y) (0 + q.z)) log.records (region_box x) acts t
    (none (cell_at (x + q.x) (0 + q.y) (0 + q.z))
    (in_region x q low below)) part.end.fits.within same whole part.pairs
    (λ k d within. region_local x _ (part.region.lie k d within)))

-- ---- all four

apart_from : (x y : ℕ) (q : Cell) → IsInRegion x q → (x + 64 ≤ y) → IsInRegion y q → ⊥
apart_from x y q of_x far of_y = let a = of_x.to in let b = of_y.from in omega (arith, a, b, far)

far_from : (x y : ℕ) (q : Cell) → IsInRegion x q → (y + 64 ≤ x) → IsInRegion y q → ⊥
far_from x y q of_x far of_y = let a = of_y.to in let b = of_x.from in omega (arith, a, b, far)

listed : (a b c d e f g h : ℕ) → a ≡ e → b ≡ f → c ≡ g → d ≡ h
    → a ∷ b ∷ c ∷ d ∷ [] ≡ e ∷ f ∷ g ∷ h ∷ []
listed a b c d e f g h of_a of_b of_c of_d = rw (of_a, of_b, of_c, of_d) refl

pub regions_counted : AllRecordsAreOwn → RegionsAreCounted
regions_counted owns p model log a b c d [] size of_a of_b of_c of_d agrees all =
    absurd agrees.sessions
regions_counted owns p model log a b c d (t ∷ []) size of_a of_b of_c of_d agrees all =
    absurd agrees.sessions.1
regions_counted owns p model log a b c d (t ∷ u ∷ []) size of_a of_b of_c of_d agrees all =
    absurd agrees.sessions.1.1
regions_counted owns p model log a b c d (t ∷ u ∷ v ∷ []) size of_a of_b of_c of_d agrees all =
    absurd agrees.sessions.1.1.1
regions_counted owns p model log a b c d
    (t ∷ u ∷ v ∷ w ∷ z ∷ more) size of_a of_b of_c of_d agrees all =
    absurd agrees.sessions.1.1.1.1
regions_counted owns p model log a b c d (t ∷ u ∷ v ∷ w ∷ []) size of_a of_b of_c of_d agrees all =
    let pa = part_of p model log 0 0 a t of_a agrees.sessions.0 in
    let pb = part_of p model log 1 64 b u of_b agrees.sessions.1.0 in
    let pc = part_of p model log 2 128 c v of_c agrees.sessions.1.1.0 in
    let pd = part_of p model log 3 192 d w of_d agrees.sessions.1.1.1.0 in
    let same = agrees.shown.records in
    let own =
    owns log (region_script 0 a ∷ region_script 64 b ∷ region_script 128 c ∷ region_script 192 d ∷ []) (t ∷ u ∷ v ∷ w ∷ []) refl same in
    let sa = shown 0 0 a t in
    let sb = shown 1 64 b u in
    let sc = shown 2 128 c v in
    let sd = shown 3 192 d w in
    let total = same.weighs (λ x. 1) in
    let parts = four (λ x. 1) sa sb sc sd in
    let records = ones (numbered 1 log.records) in
    let count = numbered_length 1 log.records in
    let na = ones sa in
    let nb = ones sb in
    let nc = ones sc in
    let nd = ones sd in
    let fa = few p model log 0 0 a t pa in
    let fb = few p model log 1 64 b u pb in
    let fc = few p model log 2 128 c v pc in
    let fd = few p model log 3 192 d w pd in
    let la : length sa ≡ 200 =
    omega (arith, all, total, parts, records, count, na, nb, nc, nd, fa, fb, fc, fd) in
    let lb : length sb ≡ 200 =
    omega (arith, all, total, parts, records, count, na, nb, nc, nd, fa, fb, fc, fd) in
    let lc : length sc ≡ 200 =
    omega (arith, all, total, parts, records, count, na, nb, nc, nd, fa, fb, fc, fd) in
    let ld : length sd ≡ 200 =
    omega (arith, all, total, parts, records, count, na, nb, nc, nd, fa, fb, fc, fd) in
    let weigh : (f : Accepted → ℕ) → sum_by f sa ≡ 0 → sum_by f sb ≡ 0 → sum_by f sc ≡ 0 → sum_by f sd ≡ 0 → sum_by f (numbered 1 log.records) ≡ 0 =
    λ f za zb zc zd.
    (let s = same.weighs f in let k = four f sa sb sc sd in omega
    (arith, s, k, za, zb, zc, zd)) in
    listed _ _ _ _ _ _ _ _
    (one_region p model log 0 0 a t pa (omega arith) own.0 la
    (λ q of_q. weigh (misfit (model ∷ []) q 0 pa.end.line.at)
    (own_weigh p model log 0 0 a t q pa)
    (other_weigh p model log 0 pa.end.line.at 1 64 b u q pb size
    (apart_from 0 64 q of_q (omega arith)) (λ e. omega (arith, e)))
    (other_weigh p model log 0 pa.end.line.at 2 128 c v q pc size
    (apart_from 0 128 q of_q (omega arith)) (λ e. omega (arith, e)))
    (other_weigh p model log 0 pa.end.line.at 3 192 d w q pd size
    (apart_from 0 192 q of_q (omega arith)) (λ e. omega (arith, e)))))
    (one_region p model log 1 64 b u pb (omega arith) own.1.0 lb
    (λ q of_q. weigh (misfit (model ∷ []) q 1 pb.end.line.at)
    (other_weigh p model log 1 pb.end.line.at 0 0 a t q pa size
    (far_from 64 0 q of_q (omega arith)) (λ e. omega (arith, e)))
    (own_weigh p model log 1 64 b u q pb)
    (other_weigh p model log 1 pb.end.line.at 2 128 c v q pc size
    (apart_from 64 128 q of_q (omega arith)) (λ e. omega (arith, e)))
    (other_weigh p model log 1 pb.end.line.at 3 192 d w q pd size
    (apart_from 64 192 q of_q (omega arith)) (λ e. omega (arith, e)))))
    (one_region p model log 2 128 c v pc (omega arith) own.1.1.0 lc
    (λ q of_q. weigh (misfit (model ∷ []) q 2 pc.end.line.at)
    (other_weigh p model log 2 pc.end.line.at 0 0 a t q pa size
    (far_from 128 0 q of_q (omega arith)) (λ e. omega (arith, e)))
    (other_weigh p model log 2 pc.end.line.at 1 64 b u q pb size
    (far_from 128 64 q of_q (omega arith)) (λ e. omega (arith, e)))
    (own_weigh p model log 2 128 c v q pc)
    (other_weigh p model log 2 pc.end.line.at 3 192 d w q pd size
    (apart_from 128 192 q of_q (omega arith)) (λ e. omega (arith, e)))))
    (one_region p model log 3 192 d w pd (omega arith) own.1.1.1.0 ld
    (λ q of_q. weigh (misfit (model ∷ []) q 3 pd.end.line.at)
    (other_weigh p model log 3 pd.end.line.at 0 0 a t q pa size
    (far_from 192 0 q of_q (omega arith)) (λ e. omega (arith, e)))
    (other_weigh p model log 3 pd.end.line.at 1 64 b u q pb size
    (far_from 192 64 q of_q (omega arith)) (λ e. omega (arith, e)))
    (other_weigh p model log 3 pd.end.line.at 2 128 c v q pc size
    (far_from 192 128 q of_q (omega arith)) (λ e. omega (arith, e)))
    (own_weigh p model log 3 192 d w q pd)))

-- ---- the load of a number

edits_number : (g x k : ℕ) → length (edits_from g x k) ≡ k
unfolding edits_from
edits_number g x zero = refl
edits_number g x (suc k) =
    let before = edits_number g x k in let more = length_push (edits_from g x k)
    (edit_from (line_state g k) x) in omega (arith, before, more)

of_region : (g x : ℕ) → x ≤ 192 → AreOfRegion x (edits_from g x 200)
of_region g x low = record { number = edits_number g x 200; lie = edits_lie_in_regions g x 200 low }

pub loads_counted : AllRecordsAreOwn → LoadsAreCounted
loads_counted owns p n log transcripts agrees all =
    let g = state_after n 16000 in
    regions_counted owns p (load_model n) log (load_edits n 0) (load_edits n 1) (load_edits n 2)
    (load_edits n 3) transcripts refl
    (of_region (line_state g (200 * 0)) 0 (omega arith))
    (of_region (line_state g (200 * 1)) 64 (omega arith))
    (of_region (line_state g (200 * 2)) 128 (omega arith))
    (of_region (line_state g (200 * 3)) 192 (omega arith)) agrees all
