mod PageLaws
mod TurnLaws
mod SideLaws
mod MomentLaws
mod PaceLaws
