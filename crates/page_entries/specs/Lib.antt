-- What a page is while it is filled. The page itself is defined in `buffer_core`, Page.
pub mod Internal
