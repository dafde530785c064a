mod FreeLaws
mod PlayLaws
